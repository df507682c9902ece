-- The node behind the end is the first item.
use Rattle.link_table.proofs.Calls.{first-some, first-none}
use Rattle.link_table.proofs.table.LinkTable.first.Goals as goal

pub returns-then-first-self-clause-first : goal.returns-then-first-self-clause-first
returns-then-first-self-clause-first c = rw (← c.self.view_is)
    (first-some c.self.inside.items c.self.inside.rings c.self.inside.owners.items c.self.invariant c.args.list
    (rw (← c.self.view_is) at c.requires) c.next-first.result c.next-first.ensures.next c.if-first-self.true)

pub returns-else-first-self-clause-first : goal.returns-else-first-self-clause-first
returns-else-first-self-clause-first c = rw (← c.self.view_is)
    (first-none c.self.inside.items c.self.inside.rings c.self.inside.owners.items c.self.invariant c.args.list
    (rw (← c.self.view_is) at c.requires) c.next-first.result c.next-first.ensures.next c.if-first-self.false)
