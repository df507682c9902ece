-- The multipliers of the rows of a net's program.
use Rattle.std.specs.Prelude.{◌≡◌, ℕ, zero, suc, ◌+◌, ◌*◌, ◌^◌, ◌≤◌, ℤ, pos, List, [], ◌∷◌, ◌++◌, false}
use Rattle.ipet_program.specs.declared.leaf.Leaf.{Leaf}
use Rattle.ipet_program.specs.declared.leaf.Weight.{Weight}
use Rattle.nest_solver.specs.Shape.{Shape, IsUpTo}
use Rattle.nest_solver.specs.Values.{times_of}

-- The multipliers of the rows of plain tables.
abbrev pub multiplier : Shape → (total : ℕ) → (worth turns : ℕ → ℕ) → ℕ → ℤ
multiplier s total worth turns row = times_of s.places total worth turns row

-- A multiplier of 0 isn't listed.
abbrev pub weight_at : ℕ → ℤ → List Weight
weight_at row (pos zero) = []
weight_at row times = record { row = row; times = times } ∷ []

-- The multipliers of the rows 1 to n that aren't 0, by rising row.
abbrev pub weights_to : (ℕ → ℤ) → ℕ → List Weight
weights_to times zero = []
weights_to times (suc n) = weights_to times n ++ weight_at (suc n) (times (suc n))

-- The numbers are small enough for sums of a column's parts to fit 128 bits.
pub record AreSmall (s : Shape) (total : ℕ) (worth turns : ℕ → ℕ) : Type 0 where
  pub total_small : total ≤ 2 ^ 120
  pub worths : (p : ℕ) → worth p ≤ 2 ^ 120
  pub turned : (l : ℕ) → IsUpTo s.loops l → turns l * (s.bound l + 1) ≤ 2 ^ 120

-- The leaf has the multipliers of these worths and turns. (`leaf-shows` of proofs/LeafLaw.antt: it is valid, and
-- shows the total.)
pub record IsLeafOf (s : Shape) (total : ℕ) (worth turns : ℕ → ℕ) (leaf : Leaf) : Type 0 where
  pub denom : leaf.denom ≡ pos 1
  pub shows : leaf.empty ≡ false
  pub weights : leaf.weights ≡ weights_to (multiplier s total worth turns) (s.places + 1 + s.loops)
