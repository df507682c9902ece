use Rattle.std.proofs.Common.{◌≡◌, ◌+◌, sum_by, take}
use Rattle.step_table.specs.Numbers.{number_of}
use Rattle.call_contexts.specs.Counting.{told_of}
use Rattle.call_contexts.proofs.sizes.total_told.Given as goal

abbrev pub invariant-loop-step : goal.invariant-loop-step
invariant-loop-step l = l.total ≡ told_of (l.first + sum_by (number_of l.told) (take l.step-index l.steps))
