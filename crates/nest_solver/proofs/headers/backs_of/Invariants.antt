use Rattle.std.proofs.Common.{◌≡◌, ℕ, ◌<◌, ◌≤◌, length}
use Rattle.nest_solver.specs.Nets.{entry}
use Rattle.nest_solver.specs.Tables.{goes_back, test_at}
use Rattle.nest_solver.proofs.headers.backs_of.Given as goal

abbrev pub invariant-loop-arc : goal.invariant-loop-arc
invariant-loop-arc l = record {
  count : length l.backs.items ≡ l.arc;
  told : (i : ℕ) → 1 ≤ i → i < l.arc → test_at l.backs.items i ≡ goes_back l.net (entry l.headed) i;
}
