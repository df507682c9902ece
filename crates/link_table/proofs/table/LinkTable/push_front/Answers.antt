-- An item before all others.
use Rattle.link_table.proofs.Calls.{free-alone, sees-front}
use Rattle.link_table.proofs.table.LinkTable.push_front.Goals as goal

pub insert-requires-clause-alone : goal.insert-requires-clause-alone
insert-requires-clause-alone c =
    free-alone c.self.inside.items c.self.inside.rings c.self.inside.owners.items c.self.invariant c.args.item
    (rw (← c.self.view_is) at c.requires.free) (rw (← c.self.view_is) at c.requires.item)

pub invariant_of-self : goal.invariant_of-self
invariant_of-self c =
    (sees-front c.self.inside.items c.self.inside.rings c.insert.new.self c.self.inside.owners.items c.self.invariant c.args.list c.args.item
    (rw (← c.self.view_is) at c.requires.list) (rw (← c.self.view_is) at c.requires.item) (rw (← c.self.view_is) at c.requires.free)
    c.insert.ensures).stand

pub returns : goal.returns
returns c = rw (← c.self.view_is)
    (sees-front c.self.inside.items c.self.inside.rings c.insert.new.self c.self.inside.owners.items c.self.invariant c.args.list c.args.item
    (rw (← c.self.view_is) at c.requires.list) (rw (← c.self.view_is) at c.requires.item) (rw (← c.self.view_is) at c.requires.free)
    c.insert.ensures).view
