use Rattle.std.proofs.Common.{◌≡◌, ℕ, length}
use Rattle.step_table.specs.Table.{IsStep}
use Rattle.step_table.proofs.table.empty_lists.Given as goal

abbrev pub invariant-loop : goal.invariant-loop
invariant-loop l = record {
  count : length l.lists.items ≡ l.counter;
  empty : (from to : ℕ) → IsStep l.lists.items from to → ⊥;
}
