use Rattle.std.proofs.Common.{ℕ, ◌<◌}
use Rattle.step_table.specs.Cycles.{IsCyclic}
use Rattle.step_table.proofs.cycles.first_cyclic.Given as goal

abbrev pub invariant-loop-position : goal.invariant-loop-position
invariant-loop-position l = (earlier : ℕ) → earlier < l.position → IsCyclic l.table earlier → ⊥
