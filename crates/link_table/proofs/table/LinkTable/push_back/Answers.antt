-- An item behind all others.
use Rattle.std.proofs.Common.{◌≡◌, ◌<◌, ◌+◌, get_or, ap, ◌∙◌, arith}
use Rattle.link_table.proofs.Calls.{free-alone, sees-back}
use Rattle.link_table.proofs.table.LinkTable.push_back.Goals as goal

pub insert-requires-clause-apart : goal.insert-requires-clause-apart
insert-requires-clause-apart c same =
    let rings = c.self.inside.rings in
    let below : c.args.item < c.self.inside.items = rw (← c.self.view_is) at c.requires.item in
    let alone : get_or rings c.args.item 0 ≡ c.args.item = free-alone c.self.inside.items rings c.self.inside.owners.items
    c.self.invariant c.args.item (rw (← c.self.view_is) at c.requires.free) below in
    let ends : get_or rings c.args.item 0 ≡ c.self.inside.items + c.args.list =
    ap (λ n. get_or rings n 0) same ∙ c.previous-last.ensures.next in
    absurd (omega (arith, alone, ends, below))

pub insert-requires-clause-alone : goal.insert-requires-clause-alone
insert-requires-clause-alone c =
    free-alone c.self.inside.items c.self.inside.rings c.self.inside.owners.items c.self.invariant c.args.item
    (rw (← c.self.view_is) at c.requires.free) (rw (← c.self.view_is) at c.requires.item)

pub invariant_of-self : goal.invariant_of-self
invariant_of-self c =
    (sees-back c.self.inside.items c.self.inside.rings c.insert.new.self c.self.inside.owners.items c.self.invariant c.args.list c.args.item
    (rw (← c.self.view_is) at c.requires.list) (rw (← c.self.view_is) at c.requires.item) (rw (← c.self.view_is) at c.requires.free)
    c.previous-last.result c.previous-last.ensures.next c.previous-last.ensures.only c.insert.ensures).stand

pub returns : goal.returns
returns c = rw (← c.self.view_is)
    (sees-back c.self.inside.items c.self.inside.rings c.insert.new.self c.self.inside.owners.items c.self.invariant c.args.list c.args.item
    (rw (← c.self.view_is) at c.requires.list) (rw (← c.self.view_is) at c.requires.item) (rw (← c.self.view_is) at c.requires.free)
    c.previous-last.result c.previous-last.ensures.next c.previous-last.ensures.only c.insert.ensures).view
