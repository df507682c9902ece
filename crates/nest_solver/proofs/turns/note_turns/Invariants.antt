use Rattle.std.proofs.Common.{◌≡◌, ℕ, ◌<◌, ◌≤◌}
use Rattle.nest_solver.specs.Solved.{turned}
use Rattle.nest_solver.specs.Nets.{entry}
use Rattle.nest_solver.specs.Plain.{plain}
use Rattle.nest_solver.proofs.turns.note_turns.Given as goal

abbrev pub invariant-loop-scope : goal.invariant-loop-scope
invariant-loop-scope l = record {
  done : (k : ℕ) → 1 ≤ k → k < l.scope →
      entry l.turns k ≡ turned (plain l.net l.tables) l.depth (entry l.best) (entry l.initial.turns) k;
  later : (k : ℕ) → l.scope ≤ k → entry l.turns k ≡ entry l.initial.turns k;
}
