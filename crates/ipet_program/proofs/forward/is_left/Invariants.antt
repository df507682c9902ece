-- Nothing has to be kept.
use Rattle.ipet_program.proofs.forward.is_left.Given as goal

abbrev pub invariant-loop-arc : goal.invariant-loop-arc
invariant-loop-arc l = Unit {0}
