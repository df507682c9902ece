use Rattle.std.proofs.Common.{List, ℕ, subst, sym}
use Rattle.step_table.specs.Table.{IsStep}
use Rattle.step_table.proofs.table.reverse_of.Goals as goal

pub turn_round-requires-clause-empty : goal.turn_round-requires-clause-empty
turn_round-requires-clause-empty c =
    subst (λ (lists : List (List ℕ)). (from to : ℕ) → IsStep lists from to → ⊥) (sym c.deref_mut.ensures.value)
    c.in_ok-lists.ensures.empty
