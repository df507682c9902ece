use Rattle.std.proofs.Common.{◌≡◌, length}
use Rattle.call_contexts.proofs.Telling.{AreToldFront}
use Rattle.call_contexts.proofs.sizes.totals_told.Given as goal

abbrev pub invariant-loop-position : goal.invariant-loop-position
invariant-loop-position l = record {
  count : length l.told.items ≡ length l.table;
  front : AreToldFront l.table l.own l.order l.told.items l.position-index;
}
