use Rattle.std.proofs.Common.{◌≡◌, ℕ, ◌+◌, ◌<◌, ◌≤◌, List, length}
use Rattle.nest_solver.specs.Begun.{IsBegun}
use Rattle.nest_solver.specs.Nets.{entry}
use Rattle.nest_solver.specs.Plain.{plain}
use Rattle.nest_solver.specs.Putting.{IsPutting}
use Rattle.nest_solver.specs.Solved.{weight_of}
use Rattle.nest_solver.proofs.put_back.put_level.Given as goal

abbrev pub invariant-loop-scope : goal.invariant-loop-scope
invariant-loop-scope l = record {
  count : length l.counts ≡ length l.net.arcs + 1;
  within : l.scope ≤ length l.net.loops;
  deep : 0 < l.scope → entry l.tables.scopes.depths.items l.scope ≡ l.depth;
  putting : (value turns : ℕ → ℕ) (path : List ℕ) (total : ℕ) →
      IsBegun (plain l.net l.tables) value turns path total l.depth (entry l.best) (entry l.choice)
      (entry l.fn.counts) →
      IsPutting (plain l.net l.tables) (weight_of (plain l.net l.tables) value turns) turns (entry l.fn.counts) l.depth
      l.scope (entry l.counts);
}

abbrev pub decreases-loop-scope : goal.decreases-loop-scope
decreases-loop-scope l = l.scope
