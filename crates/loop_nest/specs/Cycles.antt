-- Cycles of steps that are no back arcs, by the positions.
use Rattle.std.specs.Prelude.{◌≡◌, ℕ, ◌↔◌, List, length, Contains, Option}
use Rattle.step_table.specs.Cycles.{IsFirstCyclic}
use Rattle.step_table.specs.Table.{IsStep}

-- The table has just the steps of another one that are no back arcs. These are listed by their headers.
pub record IsForward (table sources forward : List (List ℕ)) : Type 0 where
  pub count : length forward ≡ length table
  pub sound : (from to : ℕ) → IsStep forward from to → IsStep table from to
  pub apart : (from to : ℕ) → IsStep forward from to → IsStep sources to from → ⊥
  pub whole : (from to : ℕ) → IsStep table from to → (IsStep sources to from → ⊥) → IsStep forward from to

-- Of the steps from a position, those that are no back arcs from it.
abbrev pub AreForward : (backs steps list : List ℕ) → Type 0
AreForward backs steps list = (to : ℕ) → Contains list to ↔ (Contains steps to × (Contains backs to → ⊥))

-- The least position of a cycle of steps that are no back arcs, or none.
pub record IsFirstIrregular (table sources : List (List ℕ)) (found : Option ℕ) : Type 0 where
  pub forward : List (List ℕ)
  pub is : IsForward table sources forward
  pub first : IsFirstCyclic forward found
