use Rattle.std.proofs.Common.{ℕ, ◌<◌, ◌≤◌}
use Rattle.nest_solver.specs.Nets.{entry}
use Rattle.nest_solver.proofs.values.deepest_of.Given as goal

abbrev pub invariant-loop-depth : goal.invariant-loop-depth
invariant-loop-depth l = record {
  most : (k : ℕ) → k < l.depth-index → entry l.depths k ≤ l.most;
  least : (bound : ℕ) → ((scope : ℕ) → entry l.depths scope ≤ bound) → l.most ≤ bound;
}
