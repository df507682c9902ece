use Rattle.std.proofs.Common.{ℕ, ◌+◌}
use Rattle.nest_solver.specs.Levels.{AreLevels}
use Rattle.nest_solver.specs.Nets.{entry}
use Rattle.nest_solver.specs.Plain.{plain}
use Rattle.nest_solver.proofs.solve.solve.Given as goal

abbrev pub invariant-loop-depth : goal.invariant-loop-depth
invariant-loop-depth l = (price : ℕ → ℕ) →
    AreLevels (plain l.net l.tables) price (entry l.initial.weights) (entry l.initial.turns) (l.deepest + 1) →
    AreLevels (plain l.net l.tables) price (entry l.weights) (entry l.turns) (l.depth + 1)

abbrev pub decreases-loop-depth : goal.decreases-loop-depth
decreases-loop-depth l = l.depth
