-- Valid certificates: counts of a value, and a tree that shows a bound.
use Rattle.std.specs.Prelude.{◌≡◌, ℕ, ◌+◌, ◌-◌, ◌^◌, ◌<◌, ◌≤◌, ◌==◌, ◌&&◌, not, min, max, true, false, pos, List, [], ◌∷◌, ◌++◌, Option, Some, None, if◌then◌else◌}
use Rattle.flow_net.specs.Numbers.{item_at}
use Rattle.ipet_program.specs.declared.certificate.Certificate.{Certificate}
use Rattle.ipet_program.specs.declared.certificate.Node.{Node}
use Rattle.ipet_program.specs.declared.certificate.Node.TheVariants.{Split, End}
use Rattle.ipet_program.specs.declared.leaf.Side2.{Side2}
use Rattle.ipet_program.specs.declared.program.Program.{Program}
use Rattle.ipet_program.specs.declared.split.Range.{Range}
use Rattle.ipet_program.specs.Counts.{IsFeasible, NamesColumns, listed, value_of}
use Rattle.ipet_program.specs.Leaves.{IsLeaf}

-- The range of a column is 0 to its cap; the cuts raise its low end and lower its high end.
abbrev pub low_end : List Side2 → ℕ → ℕ
low_end [] column = 0
low_end (cut ∷ more) column =
    if cut.column == column && not cut.upper then max (cut.at + 1) (low_end more column) else low_end more column

abbrev pub cut_high : ℕ → List Side2 → ℕ → ℕ
cut_high cap [] column = cap
cut_high cap (cut ∷ more) column =
    if cut.column == column && cut.upper then min cut.at (cut_high cap more column) else cut_high cap more column

abbrev pub cap_or_zero : Option ℕ → ℕ
cap_or_zero None = 0
cap_or_zero (Some cap) = cap

abbrev pub high_end : Program → List Side2 → ℕ → ℕ
high_end program cuts column = cut_high (cap_or_zero (item_at column program.caps)) cuts column

-- The range of a column under cuts. A low end above 2^64 - 1 is told as that: caps have 64 bits, so neither is below a
-- high end.
pub record IsRange (program : Program) (cuts : List Side2) (column : ℕ) (range : Range) : Type 0 where
  pub low : range.low ≡ min (low_end cuts column) (2 ^ 64 - 1)
  pub high : range.high ≡ high_end program cuts column

-- A split parts the range that a column of the program has under the cuts above it; no part is empty.
pub record IsSplit (program : Program) (cuts : List Side2) (column at : ℕ) : Type 0 where
  pub named : 1 ≤ column
  pub within : column ≤ program.columns
  pub low : low_end cuts column ≤ at
  pub high : at < high_end program cuts column

-- The cut of a part of a split: the first one has the column at most `at`.
abbrev pub first_part : (column at : ℕ) → Side2
first_part column at = record { column = column; at = at; upper = true }

abbrev pub second_part : (column at : ℕ) → Side2
second_part column at = record { column = column; at = at; upper = false }

-- The nodes are whole trees, one behind the other, and each is valid under its cuts.
abbrev pub AreValid : Program → (bound : ℕ) → List (List Side2) → List Node → Type 0
AreValid program bound [] [] = Unit {0}
AreValid program bound [] (node ∷ more) = ⊥
AreValid program bound (cuts ∷ others) [] = ⊥
AreValid program bound (cuts ∷ others) (Split column at ∷ more) =
    IsSplit program cuts column at
    × AreValid program bound
    ((cuts ++ first_part column at ∷ []) ∷ (cuts ++ second_part column at ∷ []) ∷ others) more
AreValid program bound (cuts ∷ others) (End leaf ∷ more) =
    IsLeaf program cuts bound leaf × AreValid program bound others more

-- The certificate is valid: its counts are feasible and have the value reached, and its tree shows the bound:
-- no feasible counts have a value above it, so what is reached is at most the bound (`certificate-bound` and
-- `certificate-reached` of proofs/CertificateLaw.antt).
pub record IsValid (program : Program) (certificate : Certificate) : Type 0 where
  pub named : NamesColumns program certificate.counts
  pub feasible : IsFeasible program (listed certificate.counts)
  pub reached : value_of program (listed certificate.counts) ≡ pos certificate.reached
  pub tree : AreValid program certificate.bound ([] ∷ []) certificate.tree
