-- What a pass over the rows of a leaf adds to a sum for each column, and to the right side.
use Rattle.std.specs.Prelude.{◌≡◌, ℕ, ◌-◌, ◌≤◌, ◌==◌, ℤ, pos, ◌+ℤ◌, ◌*ℤ◌, List, map, filter, Option, slice_index_or}
use Rattle.flow_net.specs.Numbers.{item_at}
use Rattle.ipet_program.specs.Leaves.{all_rows, column_parts, FitFrom, parts_in, right_part, right_parts, total}
use Rattle.ipet_program.specs.declared.leaf.Side2.{Side2}
use Rattle.ipet_program.specs.declared.leaf.Weight.{Weight}
use Rattle.ipet_program.specs.declared.program.Program.{Program}
use Rattle.ipet_program.specs.declared.program.Row.{Row}
use Rattle.ipet_program.specs.declared.program.Term.{Term}

-- The sum of a column stands at the place before its number.
abbrev pub sum_in : List ℤ → ℕ → ℤ
sum_in sums column = slice_index_or sums (column - 1) (pos 0)

-- While these parts are added to the sums of the columns, the numbers fit 128 signed bits.
abbrev pub Fit : (columns : ℕ) → List ℤ → (ℕ → List ℤ) → Type 0
Fit columns sums parts =
    (column : ℕ) → 1 ≤ column → column ≤ columns → FitFrom (sum_in sums column) (parts column)

-- They have been added.
abbrev pub AreAdded : (columns : ℕ) → (old new : List ℤ) → (ℕ → List ℤ) → Type 0
AreAdded columns old new parts =
    (column : ℕ) → 1 ≤ column → column ≤ columns →
    sum_in new column ≡ sum_in old column +ℤ total (parts column)

-- They fit, and have been added.
pub record HaveRoom (columns : ℕ) (old new : List ℤ) (parts : ℕ → List ℤ) : Type 0 where
  pub fit : Fit columns old parts
  pub added : AreAdded columns old new parts

-- What terms that are taken a number of times give to a column.
abbrev pub terms_parts : (column : ℕ) → (times : ℤ) → List Term → List ℤ
terms_parts column times terms =
    map (λ (term : Term). times *ℤ term.factor) (filter (λ (term : Term). term.column == column) terms)

-- The row of a number may be taken a number of times: the numbers fit on the left and on the right.
pub record MayTake (columns : ℕ) (sums : List ℤ) (right times : ℤ) (row : Option Row) : Type 0 where
  pub left : Fit columns sums (λ column. parts_in column times row)
  pub other : FitFrom right (right_part times row)

-- It has been taken.
pub record IsTaken (columns : ℕ) (old new : List ℤ) (right times : ℤ) (row : Option Row) (sum : ℤ) : Type 0 where
  pub may : MayTake columns old right times row
  pub added : AreAdded columns old new (λ column. parts_in column times row)
  pub total_right : sum ≡ right +ℤ total (right_part times row)

-- The row of a weight may be taken, and has been taken.
abbrev pub MayTakeWeight : Program → List Side2 → (sums : List ℤ) → (right : ℤ) → Weight → Type 0
MayTakeWeight program cuts sums right weight =
    MayTake program.columns sums right weight.times (item_at weight.row (all_rows program cuts))

abbrev pub IsWeightTaken : Program → List Side2 → (old new : List ℤ) → (right : ℤ) → Weight → (sum : ℤ) → Type 0
IsWeightTaken program cuts old new right weight sum =
    IsTaken program.columns old new right weight.times (item_at weight.row (all_rows program cuts)) sum

-- The rows of these weights may be taken, from the sums and the right side on.
pub record MayTakeAll (program : Program) (cuts : List Side2) (sums : List ℤ) (right : ℤ) (weights : List Weight) : Type 0 where
  pub left : Fit program.columns sums (column_parts (all_rows program cuts) weights)
  pub other : FitFrom right (right_parts (all_rows program cuts) weights)

-- They have been taken.
pub record AreTaken (program : Program) (cuts : List Side2) (old new : List ℤ) (right : ℤ) (weights : List Weight) (sum : ℤ) : Type 0 where
  pub may : MayTakeAll program cuts old right weights
  pub added : AreAdded program.columns old new (column_parts (all_rows program cuts) weights)
  pub total_right : sum ≡ right +ℤ total (right_parts (all_rows program cuts) weights)
