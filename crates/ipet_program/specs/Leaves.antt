-- What the leaves of a certificate show: multipliers of rows add up to the value, or to a contradiction.
use Rattle.std.specs.Prelude.{◌≡◌, ℕ, ◌+◌, ◌≤◌, ◌==◌, Bool, true, false, ℤ, pos, negsuc, ◌+ℤ◌, ◌*ℤ◌, ◌≤ℤ◌, List, [], ◌∷◌, ◌++◌, map, filter, flat_map, All, Option, Some, None, FitsSigned}
use Rattle.std.specs.Int.{w128}
use Rattle.flow_net.specs.Numbers.{item_at, IsNumberOf}
use Rattle.ipet_program.specs.declared.leaf.Leaf.{Leaf}
use Rattle.ipet_program.specs.declared.leaf.Side2.{Side2}
use Rattle.ipet_program.specs.declared.leaf.Weight.{Weight}
use Rattle.ipet_program.specs.declared.program.Program.{Program}
use Rattle.ipet_program.specs.declared.program.Row.{Row}
use Rattle.ipet_program.specs.declared.program.Term.{Term}

-- The row of a cut: the column <= at, or - the column <= - (at + 1).
abbrev pub cut_row_by : (upper : Bool) → (column at : ℕ) → Row
cut_row_by true column at =
    record { equal = false; terms = record { column = column; factor = pos 1 } ∷ []; right = pos at }
cut_row_by false column at =
    record { equal = false; terms = record { column = column; factor = negsuc 0 } ∷ []; right = negsuc at }

abbrev pub cut_row : Side2 → Row
cut_row cut = cut_row_by cut.upper cut.column cut.at

-- The rows that a leaf may take: those of the program, then one for each cut above it, from the root downward.
abbrev pub all_rows : Program → List Side2 → List Row
all_rows program cuts = program.rows ++ map cut_row cuts

-- What a row gives to a column: the multiplier times each factor that the column has there.
abbrev pub parts_in : (column : ℕ) → (times : ℤ) → Option Row → List ℤ
parts_in column times None = []
parts_in column times (Some row) =
    map (λ (term : Term). times *ℤ term.factor) (filter (λ (term : Term). term.column == column) row.terms)

-- What the rows give to a column, in their order.
abbrev pub column_parts : List Row → List Weight → ℕ → List ℤ
column_parts rows weights column =
    flat_map (λ (weight : Weight). parts_in column weight.times (item_at weight.row rows)) weights

-- What they give to the right side.
abbrev pub right_part : ℤ → Option Row → List ℤ
right_part times None = []
right_part times (Some row) = (times *ℤ row.right) ∷ []

abbrev pub right_parts : List Row → List Weight → List ℤ
right_parts rows weights = flat_map (λ (weight : Weight). right_part weight.times (item_at weight.row rows)) weights

abbrev pub total : List ℤ → ℤ
total [] = pos 0
total (part ∷ more) = part +ℤ total more

-- The value of a column.
abbrev pub value_or_zero : Option ℤ → ℤ
value_or_zero None = pos 0
value_or_zero (Some value) = value

abbrev pub value_at : Program → ℕ → ℤ
value_at program column = value_or_zero (item_at column program.value)

-- A row with <= has no negative multiplier.
abbrev pub IsSigned : ℤ → Option Row → Type 0
IsSigned times None = Unit {0}
IsSigned times (Some row) = row.equal ≡ false → pos 0 ≤ℤ times

-- The multipliers show a bound: each column gets at least its value taken denom times, and the right side less
-- than the next number above the bound.
pub record ShowsBound (program : Program) (rows : List Row) (bound : ℕ) (leaf : Leaf) : Type 0 where
  pub columns : (column : ℕ) → 1 ≤ column → column ≤ program.columns →
      (leaf.denom *ℤ value_at program column) ≤ℤ total (column_parts rows leaf.weights column)
  pub right : (total (right_parts rows leaf.weights) +ℤ pos 1) ≤ℤ (leaf.denom *ℤ pos (bound + 1))

-- They show that there are no counts: each column gets at least 0, and the right side less than 0.
pub record ShowsNone (program : Program) (rows : List Row) (leaf : Leaf) : Type 0 where
  pub columns : (column : ℕ) → 1 ≤ column → column ≤ program.columns →
      pos 0 ≤ℤ total (column_parts rows leaf.weights column)
  pub right : total (right_parts rows leaf.weights) ≤ℤ negsuc 0

abbrev pub Shows : (empty : Bool) → Program → List Row → ℕ → Leaf → Type 0
Shows false program rows bound leaf = ShowsBound program rows bound leaf
Shows true program rows bound leaf = ShowsNone program rows leaf

-- The numbers fit 128 signed bits: each part, and each sum of the first parts.
abbrev pub FitFrom : (sum : ℤ) → List ℤ → Type 0
FitFrom sum [] = Unit {0}
FitFrom sum (part ∷ more) =
    FitsSigned w128 part × FitsSigned w128 (sum +ℤ part) × FitFrom (sum +ℤ part) more

-- Where the leaf shows a bound, so does the denominator times each value, and times the next number above
-- the bound.
pub record FitsValues (program : Program) (bound : ℕ) (leaf : Leaf) : Type 0 where
  pub values : (column : ℕ) → 1 ≤ column → column ≤ program.columns →
      FitsSigned w128 (leaf.denom *ℤ value_at program column)
  pub next : FitsSigned w128 (leaf.denom *ℤ pos (bound + 1))

abbrev pub FitsBound : (empty : Bool) → Program → ℕ → Leaf → Type 0
FitsBound false program bound leaf = FitsValues program bound leaf
FitsBound true program bound leaf = Unit {0}

-- The leaf keeps the rules of a tree: each multiplier is of a row, none is negative on a row with <=, and the
-- denominator is at least 1. (Its type keeps that this is 1 where the leaf shows that there are no counts.)
pub record KeepsRules (program : Program) (cuts : List Side2) (leaf : Leaf) : Type 0 where
  pub rows : All (λ weight. IsNumberOf (all_rows program cuts) weight.row) leaf.weights
  pub signs : All (λ weight. IsSigned weight.times (item_at weight.row (all_rows program cuts))) leaf.weights
  pub denom : pos 1 ≤ℤ leaf.denom

-- Each product and each partial sum fits 128 signed bits: of each column in the order of the rows, and of the
-- right sides.
pub record FitsLeaf (program : Program) (cuts : List Side2) (bound : ℕ) (leaf : Leaf) : Type 0 where
  pub columns : (column : ℕ) → 1 ≤ column → column ≤ program.columns →
      FitFrom (pos 0) (column_parts (all_rows program cuts) leaf.weights column)
  pub right : FitFrom (pos 0) (right_parts (all_rows program cuts) leaf.weights)
  pub next : FitsBound leaf.empty program bound leaf

-- The leaf is valid under the cuts above it. Then counts that are feasible and meet the cuts have a value of at most
-- the bound, and there are none where the leaf shows that (`leaf-bound` of proofs/LeafLaw.antt).
pub record IsLeaf (program : Program) (cuts : List Side2) (bound : ℕ) (leaf : Leaf) : Type 0 where
  pub keeps : KeepsRules program cuts leaf
  pub fits : FitsLeaf program cuts bound leaf
  pub shows : Shows leaf.empty program (all_rows program cuts) bound leaf
