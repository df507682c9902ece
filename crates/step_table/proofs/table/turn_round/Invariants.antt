use Rattle.step_table.proofs.Reversing.{IsTurning}
use Rattle.step_table.proofs.table.turn_round.Given as goal

abbrev pub invariant-loop-from : goal.invariant-loop-from
invariant-loop-from l = IsTurning l.table l.from l.lists
