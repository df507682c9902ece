use Rattle.std.proofs.Common.{◌+◌, ◌-◌, length}
use Rattle.step_table.specs.Listing.{IsListed}
use Rattle.step_table.specs.Search.{unseen}
use Rattle.step_table.proofs.listing.list_seen.Given as goal

abbrev pub invariant-loop-first : goal.invariant-loop-first
invariant-loop-first l = IsListed l.table l.starts l.barred l.seen l.list.items l.first

-- Each position that is listed was not seen before, and each turn looks at one of the list.
abbrev pub decreases-loop-first : goal.decreases-loop-first
decreases-loop-first l = unseen l.seen + length l.list.items - l.first
