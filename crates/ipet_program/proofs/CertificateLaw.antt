-- The law of a valid certificate: no feasible counts have a value above its bound, and the listed ones have the
-- value that it reached. It names no algorithm.
use Rattle.std.proofs.Common.{ℕ, ◌≤◌, ◌<◌, List, [], ◌∷◌, ◌++◌, inl, inr, ◌⊎◌, arith}
use Rattle.std.proofs.lemmas.Bool.{cases_lt}
use Rattle.std.proofs.lemmas.Int.{ints}
use Rattle.std.proofs.lemmas.List.Elements.{All-nil, All-push}
use lib.IntN.{pos}
use lib.Signed.{◌≤ℤ◌}
use Rattle.ipet_program.specs.Certificates.{AreValid, first_part, IsSplit, IsValid, second_part}
use Rattle.ipet_program.specs.Counts.{IsFeasible, IsMet, listed, value_of}
use Rattle.ipet_program.specs.Leaves.{cut_row}
use Rattle.ipet_program.specs.Programs.{IsCheckable}
use Rattle.ipet_program.specs.declared.certificate.Certificate.{Certificate}
use Rattle.ipet_program.specs.declared.certificate.Node.{Node}
use Rattle.ipet_program.specs.declared.certificate.Node.TheVariants.{Split, End}
use Rattle.ipet_program.specs.declared.leaf.Side2.{Side2}
use Rattle.ipet_program.specs.declared.program.Program.{Program}
use Rattle.ipet_program.proofs.Exchange.{IsColumn}
use Rattle.ipet_program.proofs.LeafLaw.{leaf-bound, MeetsCuts}

first-met : (counts : ℕ → ℕ) (column at : ℕ) → counts column ≤ at → IsMet counts (cut_row (first_part column at))
first-met counts column at less = omega (arith, ints)

second-met : (counts : ℕ → ℕ) (column at : ℕ) → at < counts column →
    IsMet counts (cut_row (second_part column at))
second-met counts column at more = omega (arith, ints)

-- One more cut.
meets-more : (program : Program) (counts : ℕ → ℕ) (cuts : List Side2) (cut : Side2) →
    MeetsCuts program counts cuts → IsColumn program.columns cut.column → IsMet counts (cut_row cut) →
    MeetsCuts program counts (cuts ++ cut ∷ [])
meets-more program counts cuts cut meets named met =
    record {
      met = All-push (λ (c : Side2). IsMet counts (cut_row c)) cuts cut meets.met met;
      named = All-push (λ (c : Side2). IsColumn program.columns c.column) cuts cut meets.named named;
    }

-- The counts meet the cuts of one of the trees.
abbrev MeetsOne : Program → (ℕ → ℕ) → List (List Side2) → Type 0
MeetsOne program counts [] = ⊥
MeetsOne program counts (cuts ∷ others) = MeetsCuts program counts cuts ⊎ MeetsOne program counts others

-- The two parts of a split cover all whole numbers.
split-meets : (program : Program) (counts : ℕ → ℕ) (cuts : List Side2) (others : List (List Side2))
    (column at : ℕ) → IsSplit program cuts column at → MeetsCuts program counts cuts →
    MeetsOne program counts
    ((cuts ++ first_part column at ∷ []) ∷ (cuts ++ second_part column at ∷ []) ∷ others)
split-meets program counts cuts others column at split meets =
    elim (cases_lt at (counts column))
    as (λ _. MeetsOne program counts
    ((cuts ++ first_part column at ∷ []) ∷ (cuts ++ second_part column at ∷ []) ∷ others)) [
      | inl above ↦ inr (inl (meets-more program counts cuts (second_part column at) meets
          (split.named, split.within) (second-met counts column at above)))
      | inr below ↦ inl (meets-more program counts cuts (first_part column at) meets
          (split.named, split.within) (first-met counts column at below))
    ]

-- Counts that are feasible and meet the cuts of one of the trees have a value of at most the bound.
trees-bound : (program : Program) (bound : ℕ) (counts : ℕ → ℕ) → IsCheckable program →
    IsFeasible program counts → (stack : List (List Side2)) (nodes : List Node) →
    AreValid program bound stack nodes → MeetsOne program counts stack →
    value_of program counts ≤ℤ pos bound
trees-bound program bound counts checkable feasible [] nodes valid meets = absurd meets
trees-bound program bound counts checkable feasible (cuts ∷ others) [] valid meets = absurd valid
trees-bound program bound counts checkable feasible (cuts ∷ others) (Split column at ∷ more) valid meets =
    trees-bound program bound counts checkable feasible
    ((cuts ++ first_part column at ∷ []) ∷ (cuts ++ second_part column at ∷ []) ∷ others) more valid.1
    (elim meets as (λ _. MeetsOne program counts
    ((cuts ++ first_part column at ∷ []) ∷ (cuts ++ second_part column at ∷ []) ∷ others)) [
      | inl here ↦ split-meets program counts cuts others column at valid.0 here
      | inr there ↦ inr (inr there)
    ])
trees-bound program bound counts checkable feasible (cuts ∷ others) (End leaf ∷ more) valid meets =
    elim meets as (λ _. value_of program counts ≤ℤ pos bound) [
      | inl here ↦ (leaf-bound program counts cuts bound leaf checkable feasible here valid.0).value
      | inr there ↦ trees-bound program bound counts checkable feasible others more valid.1 there
    ]

-- No feasible counts have a value above the bound of a valid certificate.
pub certificate-bound : (program : Program) (certificate : Certificate) → IsCheckable program →
    IsValid program certificate → (counts : ℕ → ℕ) → IsFeasible program counts →
    value_of program counts ≤ℤ pos certificate.bound
certificate-bound program certificate checkable valid counts feasible =
    trees-bound program certificate.bound counts checkable feasible ([] ∷ []) certificate.tree valid.tree
    (inl (record {
      met = All-nil (λ (cut : Side2). IsMet counts (cut_row cut));
      named = All-nil (λ (cut : Side2). IsColumn program.columns cut.column);
    }))

-- So the value that its counts reach is at most its bound.
pub certificate-reached : (program : Program) (certificate : Certificate) → IsCheckable program →
    IsValid program certificate → certificate.reached ≤ certificate.bound
certificate-reached program certificate checkable valid =
    let most = certificate-bound program certificate checkable valid (listed certificate.counts) valid.feasible in
    let value = valid.reached in
    omega (arith, ints)
