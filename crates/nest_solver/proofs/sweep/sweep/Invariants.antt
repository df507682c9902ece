use Rattle.ipet_program.specs.Programs.{crude_limit}
use Rattle.nest_solver.specs.Nets.{entry, round_by}
use Rattle.nest_solver.specs.Plain.{plain}
use Rattle.nest_solver.specs.Sweeps.{IsSoFar}
use Rattle.nest_solver.proofs.sweep.sweep.Given as goal

abbrev pub invariant-loop-at : goal.invariant-loop-at
invariant-loop-at l = IsSoFar (plain l.net l.tables) l.depth (round_by l.net (entry l.up)) (entry l.weights)
    (entry l.best) (entry l.choice) (entry l.tables.order.positions.items) crude_limit l.at
