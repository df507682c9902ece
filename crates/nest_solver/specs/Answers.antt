-- What the solver answers: a leaf that shows the greatest value, and counts that have it.
use Rattle.std.specs.Prelude.{◌≡◌, ℕ, zero, suc, ◌+◌, ◌*◌, ◌^◌, ◌<◌, ◌≤◌, false, pos, List, [], ◌∷◌, ◌++◌, All, AllPairs}
use Rattle.ipet_program.specs.Counts.{IsGreatest, NamesColumns, listed, value_of}
use Rattle.ipet_program.specs.Leaves.{IsLeaf}
use Rattle.ipet_program.specs.declared.certificate.Count.{Count}
use Rattle.ipet_program.specs.declared.leaf.Leaf.{Leaf}
use Rattle.ipet_program.specs.declared.leaf.Weight.{Weight}
use Rattle.ipet_program.specs.declared.program.Program.{Program}
use Rattle.nest_solver.specs.Shape.{Shape}
use Rattle.nest_solver.specs.Solved.{IsDual}

-- The leaf shows, with no cuts and whole multipliers (the denominator is 1), a bound that some counts reach: the
-- greatest value. Row 1 has the bound for its multiplier. (`leaf-greatest` of proofs/Answering.antt gives it from the
-- tables of all levels.)
pub record ShowsGreatest (program : Program) (leaf : Leaf) : Type 0 where
  pub bound : ℕ
  pub valid : IsLeaf program [] bound leaf
  pub whole : leaf.denom ≡ pos 1
  pub some : leaf.empty ≡ false
  pub more : List Weight
  pub first : leaf.weights ≡ record { row = 1; times = pos bound } ∷ more
  pub counts : ℕ → ℕ
  pub greatest : IsGreatest program counts
  pub reached : value_of program counts ≡ pos bound

-- The listed counts have the greatest value. They name columns of the program, by rising number, and each count is
-- above 0. (`counts-greatest` of proofs/Answering.antt)
pub record AreGreatest (program : Program) (counts : List Count) : Type 0 where
  pub named : NamesColumns program counts
  pub rising : AllPairs (λ count other. count.column < other.column) counts
  pub taken : All (λ count. 0 < count.number) counts
  pub greatest : IsGreatest program (listed counts)

-- The counts of the columns 1 to n that aren't 0, by rising column.
abbrev pub count_at : ℕ → ℕ → List Count
count_at column zero = []
count_at column (suc n) = record { column = column; number = suc n } ∷ []

abbrev pub counts_to : (ℕ → ℕ) → ℕ → List Count
counts_to counts zero = []
counts_to counts (suc n) = counts_to counts n ++ count_at (suc n) (counts (suc n))

-- Worths with the loops of so many depths that show a total, and how large they are.
pub record AreWorths (s : Shape) (weight turns : ℕ → ℕ) (depth total : ℕ) (worth : ℕ → ℕ) : Type 0 where
  pub dual : IsDual s weight turns depth worth
  pub shown : total + worth 0 ≡ weight 1 + worth (s.to 1)
  pub small : (p : ℕ) → worth p ≤ 2 ^ 63 * (s.arcs + 2 + depth)
