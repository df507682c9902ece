-- What the columns' sums and the right side show once the rows of a leaf have been added.
use Rattle.std.specs.Prelude.{ℕ, ◌+◌, ◌≤◌, ◌<◌, Bool, true, false, ℤ, pos, negsuc, ◌+ℤ◌, ◌*ℤ◌, ◌≤ℤ◌, List, length, slice_index_or, FitsSigned}
use Rattle.std.specs.Int.{w128}
use Rattle.flow_net.specs.Numbers.{item_at, IsNumberOf}
use Rattle.ipet_program.specs.Leaves.{all_rows, IsSigned}
use Rattle.ipet_program.specs.declared.leaf.LeafFault.{LeafFault}
use Rattle.ipet_program.specs.declared.leaf.LeafFault.TheVariants.{Tree, Wide, Dual}
use Rattle.ipet_program.specs.declared.leaf.Side2.{Side2}
use Rattle.ipet_program.specs.declared.leaf.Weight.{Weight}
use Rattle.ipet_program.specs.declared.program.Program.{Program}

-- A multiplier is of a row, and isn't negative where that has <=.
pub record IsAllowed (program : Program) (cuts : List Side2) (weight : Weight) : Type 0 where
  pub there : IsNumberOf (all_rows program cuts) weight.row
  pub signed : IsSigned weight.times (item_at weight.row (all_rows program cuts))

-- Each value, taken denom times, fits 128 signed bits.
abbrev pub ValuesFit : ℤ → (values : List ℤ) → Type 0
ValuesFit denom values =
    (k : ℕ) → k < length values → FitsSigned w128 (denom *ℤ slice_index_or values k (pos 0))

-- It is at most the sum at its place.
abbrev pub AreCovered : ℤ → (values sums : List ℤ) → Type 0
AreCovered denom values sums =
    (k : ℕ) → k < length values →
    (denom *ℤ slice_index_or values k (pos 0)) ≤ℤ slice_index_or sums k (pos 0)

-- No sum of the first columns is negative.
abbrev pub NoneNegative : (columns : ℕ) → List ℤ → Type 0
NoneNegative columns sums = (k : ℕ) → k < columns → pos 0 ≤ℤ slice_index_or sums k (pos 0)

-- A right side is less than the next number above the bound, taken denom times.
abbrev pub IsBelow : (denom : ℤ) → (bound : ℕ) → (side : ℤ) → Type 0
IsBelow denom bound side = (side +ℤ pos 1) ≤ℤ (denom *ℤ pos (bound + 1))

-- What is taken denom times where a bound is shown fits.
pub record FitBound (program : Program) (denom : ℤ) (bound : ℕ) : Type 0 where
  pub next : FitsSigned w128 (denom *ℤ pos (bound + 1))
  pub values : ValuesFit denom program.value

-- The sums and the right side show the bound.
pub record ShowBound (program : Program) (denom : ℤ) (bound : ℕ) (sums : List ℤ) (side : ℤ) : Type 0 where
  pub below : IsBelow denom bound side
  pub covered : AreCovered denom program.value sums

-- They show that there are no counts.
pub record ShowNone (columns : ℕ) (sums : List ℤ) (side : ℤ) : Type 0 where
  pub right : side ≤ℤ negsuc 0
  pub kept : NoneNegative columns sums

-- What a leaf says fits, and is shown: that there are no counts, or its bound.
abbrev pub FitSaid : (empty : Bool) → Program → (denom : ℤ) → (bound : ℕ) → Type 0
FitSaid false program denom bound = FitBound program denom bound
FitSaid true program denom bound = Unit {0}

abbrev pub ShowSaid : (empty : Bool) → Program → (denom : ℤ) → (bound : ℕ) → (sums : List ℤ) → (side : ℤ) → Type 0
ShowSaid false program denom bound sums side = ShowBound program denom bound sums side
ShowSaid true program denom bound sums side = ShowNone program.columns sums side

pub record SayRight (empty : Bool) (program : Program) (denom : ℤ) (bound : ℕ) (sums : List ℤ) (side : ℤ) : Type 0 where
  pub fit : FitSaid empty program denom bound
  pub shown : ShowSaid empty program denom bound sums side

-- Which of these rules they break first.
abbrev pub SayWrong : (empty : Bool) → Program → (denom : ℤ) → (bound : ℕ) → (sums : List ℤ) → (side : ℤ) → LeafFault →
    Type 0
SayWrong empty program denom bound sums side Tree = ⊥
SayWrong empty program denom bound sums side Wide = FitSaid empty program denom bound → ⊥
SayWrong empty program denom bound sums side Dual =
    FitSaid empty program denom bound × (ShowSaid empty program denom bound sums side → ⊥)

-- The right side leaves room for a bound; for any where the leaf shows that there are no counts.
abbrev pub Allows : (empty : Bool) → (denom side : ℤ) → (bound : ℕ) → Type 0
Allows false denom side bound = IsBelow denom bound side
Allows true denom side bound = Unit {0}

-- It leaves room for this one, and for none that is less.
pub record IsFirst (empty : Bool) (denom side : ℤ) (bound : ℕ) : Type 0 where
  pub allowed : Allows empty denom side bound
  pub first : (other : ℕ) → Allows empty denom side other → bound ≤ other
