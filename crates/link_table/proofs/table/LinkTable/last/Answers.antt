-- The node before the end is the last item.
use Rattle.link_table.proofs.Calls.{last-some, last-none}
use Rattle.link_table.proofs.table.LinkTable.last.Goals as goal

pub returns-then-last-self : goal.returns-then-last-self
returns-then-last-self c = rw (← c.self.view_is)
    (last-some c.self.inside.items c.self.inside.rings c.self.inside.owners.items c.self.invariant c.args.list
    (rw (← c.self.view_is) at c.requires) c.previous-last.result c.previous-last.ensures.only c.if-last-self.true)

pub returns-else-last-self : goal.returns-else-last-self
returns-else-last-self c = rw (← c.self.view_is)
    (last-none c.self.inside.items c.self.inside.rings c.self.inside.owners.items c.self.invariant c.args.list
    (rw (← c.self.view_is) at c.requires) c.previous-last.result c.previous-last.ensures.only c.if-last-self.false)
