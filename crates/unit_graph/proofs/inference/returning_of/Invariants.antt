use Rattle.std.proofs.Common.{◌+◌, ◌*◌, ◌-◌, ◌^◌, length}
use Rattle.unit_graph.specs.Inference.{IsInferring}
use Rattle.unit_graph.proofs.inference.returning_of.Given as goal

abbrev pub invariant-loop-address : goal.invariant-loop-address
invariant-loop-address l = IsInferring l.rows l.rules.items l.returning.keys l.waiting.items

-- Each turn takes a waiting address; each that comes in its place was not seen before.
abbrev pub decreases-loop-address : goal.decreases-loop-address
decreases-loop-address l = 2 * (2 ^ 32 - length l.returning.keys) + length l.waiting.items
