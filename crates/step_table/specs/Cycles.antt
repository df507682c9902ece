-- Cycles of steps, by the positions.
use Rattle.std.specs.Prelude.{◌≡◌, ℕ, ◌<◌, List, length, Option, Some, None, slice_get}
use Rattle.step_table.specs.Table.{IsMet}

-- A position is met from its own steps.
pub record IsCyclic (table : List (List ℕ)) (position : ℕ) : Type 0 where
  pub steps : List ℕ
  pub there : slice_get table position ≡ Some steps
  pub met : IsMet table steps (length table) position

-- The least position of a cycle, or none.
abbrev pub IsFirstCyclic : List (List ℕ) → Option ℕ → Type 0
IsFirstCyclic table None = (position : ℕ) → position < length table → IsCyclic table position → ⊥
IsFirstCyclic table (Some first) =
    IsCyclic table first × ((position : ℕ) → position < first → IsCyclic table position → ⊥)
