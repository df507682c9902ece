use Rattle.std.proofs.Common.{◌≡◌, ℕ, ◌<◌}
use Rattle.nest_solver.specs.Nets.{entry}
use Rattle.nest_solver.proofs.sweep.clear.Given as goal

abbrev pub invariant-loop-way : goal.invariant-loop-way
invariant-loop-way l = (p : ℕ) → p < l.way-index → entry l.best p ≡ 0
