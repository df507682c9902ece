use Rattle.std.proofs.Common.{◌≡◌, ℕ, ◌+◌, ◌≤◌, ◌<◌, length}
use Rattle.nest_solver.specs.Depths.{IsDeep}
use Rattle.nest_solver.specs.Nets.{entry}
use Rattle.nest_solver.proofs.depths.depths_of.Given as goal

abbrev pub invariant-loop-scope : goal.invariant-loop-scope
invariant-loop-scope l = record {
  count : length l.depths.items ≡ l.scope;
  deep : (s : ℕ) → s < l.scope → IsDeep l.net.loops s (entry l.depths.items s);
  small : (s : ℕ) → entry l.depths.items s ≤ length l.net.loops + 1;
}
