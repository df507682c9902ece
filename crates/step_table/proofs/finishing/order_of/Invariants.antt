use Rattle.std.proofs.Common.{ℕ, [], ◌<◌}
use Rattle.step_table.specs.Rings.{IsDepth}
use Rattle.step_table.specs.Search.{IsSeen}
use Rattle.step_table.proofs.finishing.order_of.Given as goal

abbrev pub invariant-loop-start : goal.invariant-loop-start
invariant-loop-start l = record {
  depth : IsDepth l.table l.order.items l.seen.items l.ahead.items [];
  seen : (x : ℕ) → x < l.start → IsSeen l.seen.items x;
}
