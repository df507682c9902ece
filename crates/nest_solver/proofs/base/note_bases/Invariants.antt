use Rattle.std.proofs.Common.{◌≡◌, ℕ, ◌<◌}
use Rattle.nest_solver.specs.Bases.{base_by}
use Rattle.nest_solver.specs.Nets.{entry}
use Rattle.nest_solver.proofs.base.note_bases.Given as goal

abbrev pub invariant-loop-place : goal.invariant-loop-place
invariant-loop-place l = (p : ℕ) → p < l.place → entry l.worths p ≡ base_by l.net (entry l.latest) (entry l.best) p
