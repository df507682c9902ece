-- The lists without an item.
use Rattle.link_table.proofs.Calls.{sees-taken, sees-free}
use Rattle.link_table.proofs.Members.{is_in-from_Contains}
use Rattle.link_table.proofs.table.LinkTable.unlink.Goals as goal

pub invariant_of-self : goal.invariant_of-self
invariant_of-self c =
    let stands = rw (← c.self.view_is) at c.requires.stands in
    (sees-taken c.self.inside.items c.self.inside.rings c.remove.new.self c.self.inside.owners.items c.self.invariant stands.0 c.args.item
    (rw (← c.self.view_is) at c.requires.item) (is_in-from_Contains _ _ stands.1) c.remove.ensures).stand

pub returns-clause-rest : goal.returns-clause-rest
returns-clause-rest c = rw (← c.self.view_is) (λ list there.
    (sees-taken c.self.inside.items c.self.inside.rings c.remove.new.self c.self.inside.owners.items c.self.invariant list c.args.item
    (rw (← c.self.view_is) at c.requires.item) (is_in-from_Contains _ _ there) c.remove.ensures).view)

pub returns-clause-free : goal.returns-clause-free
returns-clause-free c =
    let stands = rw (← c.self.view_is) at c.requires.stands in
    sees-free c.self.inside.items c.self.inside.rings c.remove.new.self c.self.inside.owners.items c.self.invariant stands.0 c.args.item
    (rw (← c.self.view_is) at c.requires.item) (is_in-from_Contains _ _ stands.1) c.remove.ensures
