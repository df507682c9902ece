-- The rows that a leaf may take, and how often.
use Rattle.std.proofs.Common.{◌≡◌, ℕ, ◌-◌, ◌≤◌, ◌<◌, Bool, true, false, List, [], ◌∷◌, length, get_or, Option, Some, refl, sym, ap, ◌∙◌, subst, arith}
use Rattle.std.specs.List.{All}
use Rattle.std.specs.Bool.{OnFalse, OnTrue}
use Rattle.std.proofs.lemmas.Int.{ints}
use Rattle.std.proofs.lemmas.List.Elements.{All-cons, All-head, All-nil, All-tail, All-weaker}
use lib.IntN.{ℤ, pos}
use lib.Signed.{◌≤ℤ◌}
use Rattle.flow_net.specs.Numbers.{item_at, IsNumberOf}
use Rattle.ipet_program.specs.Leaves.{all_rows, cut_row, cut_row_by, IsSigned, KeepsRules}
use Rattle.ipet_program.specs.Shown.{IsAllowed}
use Rattle.ipet_program.specs.declared.leaf.Leaf.{Leaf}
use Rattle.ipet_program.specs.declared.leaf.Side2.{Side2}
use Rattle.ipet_program.specs.declared.leaf.Weight.{Weight}
use Rattle.ipet_program.specs.declared.program.Program.{Program}
use Rattle.ipet_program.specs.declared.program.Row.{Row}
use Rattle.ipet_program.proofs.WeightLemmas.{cut-row-in, number-in, program-row-in}

unequal_by : (upper : Bool) (column at : ℕ) → (cut_row_by upper column at).equal ≡ false
unequal_by true column at = refl
unequal_by false column at = refl

-- The row of a cut has <=.
cut-unequal : (cut : Side2) → (cut_row cut).equal ≡ false
cut-unequal cut = unequal_by cut.upper cut.column cut.at

-- ---- Multipliers by the rows of their numbers.
module _ (program : Program) (cuts : List Side2) (rows : List Row) (weight : Weight) (same : rows ≡ program.rows)
    (low : 1 ≤ weight.row) where
  pub allowed-row : (row : Row) → weight.row - 1 < length rows → row ≡ get_or rows (weight.row - 1) row →
      IsSigned weight.times (Some row) → IsAllowed program cuts weight
  allowed-row row less read signed =
      record {
        there = number-in program cuts rows weight.row same low (omega arith);
        signed = subst (IsSigned weight.times)
            (sym (program-row-in program cuts rows weight.row row same low less read)) signed;
      }

  pub signed-row : (row : Row) → weight.row - 1 < length rows → row ≡ get_or rows (weight.row - 1) row →
      IsAllowed program cuts weight → IsSigned weight.times (Some row)
  signed-row row less read allowed =
      subst (IsSigned weight.times) (program-row-in program cuts rows weight.row row same low less read) allowed.signed

  pub allowed-cut : (cut : Side2) → length rows ≤ weight.row - 1 → weight.row - 1 - length rows < length cuts →
      pos 0 ≤ℤ weight.times → IsAllowed program cuts weight
  allowed-cut cut past less signed =
      record {
        there = number-in program cuts rows weight.row same low (omega arith);
        signed = subst (IsSigned weight.times)
            (sym (cut-row-in program cuts rows weight.row cut same low past less)) (λ _. signed);
      }

  pub signed-cut : (cut : Side2) → length rows ≤ weight.row - 1 → weight.row - 1 - length rows < length cuts →
      IsAllowed program cuts weight → pos 0 ≤ℤ weight.times
  signed-cut cut past less allowed =
      subst (IsSigned weight.times) (cut-row-in program cuts rows weight.row cut same low past less) allowed.signed
      (cut-unequal (get_or cuts (weight.row - 1 - length rows) cut))

-- ---- All of a leaf.
all-both : (program : Program) (cuts : List Side2) (weights : List Weight) →
    All (λ (weight : Weight). IsNumberOf (all_rows program cuts) weight.row) weights →
    All (λ (weight : Weight). IsSigned weight.times (item_at weight.row (all_rows program cuts))) weights →
    All (IsAllowed program cuts) weights
all-both program cuts [] rows signs = All-nil (IsAllowed program cuts)
all-both program cuts (weight ∷ more) rows signs =
    let there = λ (w : Weight). IsNumberOf (all_rows program cuts) w.row in
    let signed = λ (w : Weight). IsSigned w.times (item_at w.row (all_rows program cuts)) in
    All-cons (IsAllowed program cuts) weight more
    (record { there = All-head there weight more rows; signed = All-head signed weight more signs })
    (all-both program cuts more (All-tail there weight more rows) (All-tail signed weight more signs))

pub keeps-all : (program : Program) (cuts : List Side2) (leaf : Leaf) → All (IsAllowed program cuts) leaf.weights →
    pos 1 ≤ℤ leaf.denom → KeepsRules program cuts leaf
keeps-all program cuts leaf all denom =
    record {
      rows = All-weaker (IsAllowed program cuts) (λ (w : Weight). IsNumberOf (all_rows program cuts) w.row)
          (λ w h. h.there) leaf.weights all;
      signs = All-weaker (IsAllowed program cuts)
          (λ (w : Weight). IsSigned w.times (item_at w.row (all_rows program cuts))) (λ w h. h.signed) leaf.weights all;
      denom = denom;
    }

pub all-keeps : (program : Program) (cuts : List Side2) (leaf : Leaf) → KeepsRules program cuts leaf →
    All (IsAllowed program cuts) leaf.weights
all-keeps program cuts leaf keeps = all-both program cuts leaf.weights keeps.rows keeps.signs
