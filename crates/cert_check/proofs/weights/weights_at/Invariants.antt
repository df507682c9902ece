-- The multipliers so far.
use Rattle.std.specs.Prelude.{length}
use Rattle.cert_check.proofs.WeightLemmas.{AreSoFar}
use Rattle.cert_check.proofs.weights.weights_at.Given as goal

abbrev pub invariant-loop-rest : goal.invariant-loop-rest
invariant-loop-rest l = AreSoFar l.bytes l.weights l.low l.rest

abbrev pub decreases-loop-rest : goal.decreases-loop-rest
decreases-loop-rest l = length l.rest
