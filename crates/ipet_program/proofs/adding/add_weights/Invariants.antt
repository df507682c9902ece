-- The weights before this one have been taken.
use Rattle.std.proofs.Common.{pos, take}
use Rattle.ipet_program.specs.Adding.{AreTaken}
use Rattle.ipet_program.proofs.adding.add_weights.Given as goal

abbrev pub invariant-loop-weight : goal.invariant-loop-weight
invariant-loop-weight l =
    AreTaken l.program l.cuts l.initial.sums l.sums (pos 0) (take l.weight-index l.weights) l.right
