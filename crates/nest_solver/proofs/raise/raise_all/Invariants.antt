use Rattle.std.proofs.Common.{ℕ, ◌+◌, ◌-◌, ◌*◌, ◌^◌, ◌≤◌, length}
use Rattle.nest_solver.specs.Answers.{AreWorths}
use Rattle.nest_solver.specs.Levels.{AreLevels}
use Rattle.nest_solver.specs.Nets.{entry, value_at_end}
use Rattle.nest_solver.specs.Plain.{plain}
use Rattle.nest_solver.specs.Solved.{weight_of}
use Rattle.nest_solver.proofs.raise.raise_all.Given as goal

abbrev pub invariant-loop-depth : goal.invariant-loop-depth
invariant-loop-depth l = record {
  small : (p : ℕ) → entry l.worths p ≤ 2 ^ 63 * (length l.net.arcs + 2 + (l.depth - 1));
  worths : (price : ℕ → ℕ) (total : ℕ) → AreLevels (plain l.net l.tables) price (entry l.weights) (entry l.turns) 1 →
      AreWorths (plain l.net l.tables) (weight_of (plain l.net l.tables) (value_at_end (plain l.net l.tables) price) (entry l.turns))
      (entry l.turns) 0 total (entry l.initial.worths) →
      AreWorths (plain l.net l.tables) (weight_of (plain l.net l.tables) (value_at_end (plain l.net l.tables) price) (entry l.turns))
      (entry l.turns) (l.depth - 1) total (entry l.worths);
}
