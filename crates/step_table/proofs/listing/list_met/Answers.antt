use Rattle.std.proofs.Common.{◌<◌, All, List, ℕ, length, subst, sym}
use Rattle.step_table.proofs.Listed.{listed_within, lists_met}
use Rattle.step_table.proofs.listing.list_met.Goals as goal

pub unmark-requires : goal.unmark-requires
unmark-requires c =
    subst (λ (list : List ℕ). All (λ (x : ℕ). x < length c.list_seen.new.seen) list) (sym c.deref.ensures.value)
    (listed_within c.args.table.now c.args.starts.now c.args.barred c.list_seen.new.seen c.list_seen.new.list.items
    (length c.list_seen.new.list.items) c.in_ok-list_seen.ensures)

pub returns-clause-list : goal.returns-clause-list
returns-clause-list c =
    lists_met c.args.table.now c.args.starts.now c.args.barred c.list_seen.new.seen c.list_seen.new.list.items
    c.in_ok-list_seen.ensures
