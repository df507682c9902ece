-- The owner is the list in which the item stands.
use Rattle.std.proofs.Common.{◌<◌, length, None}
use Rattle.std.proofs.lemmas.List.{get_or_read}
use Rattle.link_table.proofs.Calls.{owner-stands, owner-only, owner-free}
use Rattle.link_table.proofs.table.LinkTable.list_of.Goals as goal

pub returns-clause-stands : goal.returns-clause-stands
returns-clause-stands c =
    let within : c.args.item < length c.self.inside.owners.items = rw c.self.invariant.owned (rw (← c.self.view_is) at c.requires) in
    rw (← c.self.view_is) (owner-stands c.self.inside.items c.self.inside.rings c.self.inside.owners.items c.self.invariant c.args.item
    c.index.result.now (get_or_read c.self.inside.owners.items c.args.item c.index.result.now within c.index.ensures None))

pub returns-clause-only : goal.returns-clause-only
returns-clause-only c =
    let within : c.args.item < length c.self.inside.owners.items = rw c.self.invariant.owned (rw (← c.self.view_is) at c.requires) in
    rw (← c.self.view_is) (owner-only c.self.inside.items c.self.inside.rings c.self.inside.owners.items c.self.invariant c.args.item
    c.index.result.now (get_or_read c.self.inside.owners.items c.args.item c.index.result.now within c.index.ensures None))

pub returns-clause-free : goal.returns-clause-free
returns-clause-free c =
    let within : c.args.item < length c.self.inside.owners.items = rw c.self.invariant.owned (rw (← c.self.view_is) at c.requires) in
    rw (← c.self.view_is) (owner-free c.self.inside.items c.self.inside.rings c.self.inside.owners.items c.self.invariant c.args.item
    c.index.result.now (get_or_read c.self.inside.owners.items c.args.item c.index.result.now within c.index.ensures None))
