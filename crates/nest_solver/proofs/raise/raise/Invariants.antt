use Rattle.nest_solver.specs.Nets.{entry, round_by}
use Rattle.nest_solver.specs.Plain.{plain}
use Rattle.nest_solver.proofs.Raising.{AreRaised}
use Rattle.nest_solver.proofs.raise.raise.Given as goal

abbrev pub invariant-loop-place : goal.invariant-loop-place
invariant-loop-place l =
    AreRaised (plain l.net l.tables) (round_by l.net (entry l.up)) (entry l.best) (entry l.turns)
    (entry l.initial.worths) (entry l.worths) l.place
