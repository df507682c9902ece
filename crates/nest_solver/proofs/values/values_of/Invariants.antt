use Rattle.std.proofs.Common.{◌≡◌, ℕ, ◌<◌, ◌≤◌, length}
use Rattle.std.specs.Prelude.{unsigned_abs}
use Rattle.ipet_program.specs.Leaves.{value_at}
use Rattle.nest_solver.specs.Nets.{entry}
use Rattle.nest_solver.proofs.values.values_of.Given as goal

abbrev pub invariant-loop-column : goal.invariant-loop-column
invariant-loop-column l = record {
  count : length l.values.items ≡ l.column;
  told : (i : ℕ) → 1 ≤ i → i < l.column → entry l.values.items i ≡ unsigned_abs (value_at l.program i);
}
