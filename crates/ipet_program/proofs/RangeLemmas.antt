-- Ranges of columns under one cut more.
use Rattle.std.proofs.Common.{◌≡◌, ℕ, ◌+◌, ◌-◌, ◌^◌, ◌==◌, ◌&&◌, not, Bool, true, false, List, [], ◌∷◌, ◌++◌, min, max, refl, sym, ap, ◌∙◌, arith}
use Rattle.std.specs.Prelude.{if◌then◌else◌}
use Rattle.std.proofs.lemmas.Bool.Decides.{nat_tests}
use Rattle.flow_net.specs.Numbers.{item_at}
use Rattle.ipet_program.specs.Certificates.{cap_or_zero, cut_high, high_end, IsRange, low_end}
use Rattle.ipet_program.specs.declared.leaf.Side2.{Side2}
use Rattle.ipet_program.specs.declared.program.Program.{Program}
use Rattle.ipet_program.specs.declared.split.Range.{Range}

-- ---- A cut behind the others.
abbrev raised : Bool → ℕ → ℕ → ℕ
raised test at low = if test then max (at + 1) low else low

abbrev lowered : Bool → ℕ → ℕ → ℕ
lowered test at high = if test then min at high else high

raised-swap : (one other : Bool) (a b low : ℕ) → raised one a (raised other b low) ≡ raised other b (raised one a low)
raised-swap true true a b low = omega arith
raised-swap true false a b low = refl
raised-swap false true a b low = refl
raised-swap false false a b low = refl

lowered-swap : (one other : Bool) (a b high : ℕ) →
    lowered one a (lowered other b high) ≡ lowered other b (lowered one a high)
lowered-swap true true a b high = omega arith
lowered-swap true false a b high = refl
lowered-swap false true a b high = refl
lowered-swap false false a b high = refl

abbrev raises : Side2 → ℕ → Bool
raises cut column = cut.column == column && not cut.upper

abbrev lowers : Side2 → ℕ → Bool
lowers cut column = cut.column == column && cut.upper

low-more : (cuts : List Side2) (cut : Side2) (column : ℕ) →
    low_end (cuts ++ cut ∷ []) column ≡ raised (raises cut column) cut.at (low_end cuts column)
low-more [] cut column = refl
low-more (first ∷ more) cut column =
    ap (raised (raises first column) first.at) (low-more more cut column)
    ∙ raised-swap (raises first column) (raises cut column) first.at cut.at (low_end more column)

high-more : (cap : ℕ) (cuts : List Side2) (cut : Side2) (column : ℕ) →
    cut_high cap (cuts ++ cut ∷ []) column ≡ lowered (lowers cut column) cut.at (cut_high cap cuts column)
high-more cap [] cut column = refl
high-more cap (first ∷ more) cut column =
    ap (lowered (lowers first column) first.at) (high-more cap more cut column)
    ∙ lowered-swap (lowers first column) (lowers cut column) first.at cut.at (cut_high cap more column)

-- ---- Ranges.
module _ (program : Program) (cuts : List Side2) (column : ℕ) (range : Range) (is : IsRange program cuts column range)
    (cut : Side2) where
  pub range-other : (cut.column ≡ column → ⊥) → IsRange program (cuts ++ cut ∷ []) column range
  range-other differ =
      let e : (cut.column == column) ≡ false = grind (arith, nat_tests) in
      record {
        low = is.low ∙ ap (λ (n : ℕ). min n (2 ^ 64 - 1))
            (sym (low-more cuts cut column ∙ ap (λ (t : Bool). raised (t && not cut.upper) cut.at (low_end cuts column)) e));
        high = is.high
            ∙ sym (high-more (cap_or_zero (item_at column program.caps)) cuts cut column
            ∙ ap (λ (t : Bool). lowered (t && cut.upper) cut.at (high_end program cuts column)) e);
      }

  pub range-upper : (high : ℕ) → cut.column ≡ column → cut.upper ≡ true → high ≡ min range.high cut.at →
      IsRange program (cuts ++ cut ∷ []) column (record { low = range.low; high = high })
  range-upper high same upper told =
      let e : (cut.column == column) ≡ true = grind (arith, nat_tests) in
      let low : raises cut column ≡ false = ap (λ (t : Bool). t && not cut.upper) e ∙ ap not upper in
      let lower : lowers cut column ≡ true = ap (λ (t : Bool). t && cut.upper) e ∙ upper in
      record {
        low = is.low ∙ ap (λ (n : ℕ). min n (2 ^ 64 - 1))
            (sym (low-more cuts cut column ∙ ap (λ (t : Bool). raised t cut.at (low_end cuts column)) low));
        high =
            let ends = is.high in
            let more = high-more (cap_or_zero (item_at column program.caps)) cuts cut column
            ∙ ap (λ (t : Bool). lowered t cut.at (high_end program cuts column)) lower in
            omega arith;
      }

  pub range-lower : (low : ℕ) → cut.column ≡ column → cut.upper ≡ false →
      low ≡ max range.low (min (cut.at + 1) (2 ^ 64 - 1)) →
      IsRange program (cuts ++ cut ∷ []) column (record { low = low; high = range.high })
  range-lower low same upper told =
      let e : (cut.column == column) ≡ true = grind (arith, nat_tests) in
      let raise : raises cut column ≡ true = ap (λ (t : Bool). t && not cut.upper) e ∙ ap not upper in
      let lower : lowers cut column ≡ false = ap (λ (t : Bool). t && cut.upper) e ∙ upper in
      record {
        low =
            let ends = is.low in
            let more = low-more cuts cut column ∙ ap (λ (t : Bool). raised t cut.at (low_end cuts column)) raise in
            omega arith;
        high = is.high
            ∙ sym (high-more (cap_or_zero (item_at column program.caps)) cuts cut column
            ∙ ap (λ (t : Bool). lowered t cut.at (high_end program cuts column)) lower);
      }
