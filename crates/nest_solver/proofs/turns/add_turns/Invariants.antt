use Rattle.std.proofs.Common.{◌≡◌, ℕ, ◌+◌, ◌<◌, ◌≤◌}
use Rattle.nest_solver.specs.Levels.{extra}
use Rattle.nest_solver.specs.Nets.{entry}
use Rattle.nest_solver.specs.Plain.{plain}
use Rattle.nest_solver.proofs.turns.add_turns.Given as goal

abbrev pub invariant-loop-arc : goal.invariant-loop-arc
invariant-loop-arc l = record {
  done : (k : ℕ) → 1 ≤ k → k < l.arc →
      entry l.weights k ≡ entry l.initial.weights k + extra (plain l.net l.tables) l.depth (entry l.turns) k;
  later : (k : ℕ) → l.arc ≤ k → entry l.weights k ≡ entry l.initial.weights k;
}
