-- The counts that a list names.
use Rattle.std.proofs.Common.{◌≡◌, ℕ, zero, suc, ◌+◌, ◌*◌, ◌<◌, ◌≤◌, Bool, true, false, List, [], ◌∷◌, ◌++◌, length, take, get_or, refl, sym, ap, ◌∙◌, inl, inr, ◌⊎◌, arith}
use Rattle.std.specs.Prelude.{◌==◌, ◌^◌, if◌then◌else◌, unsigned_abs, FitsSigned}
use Rattle.std.specs.Int.{w128}
use Rattle.std.proofs.Math.Nat.{mul-le-mul_left}
use Rattle.std.specs.List.Sorted.{IsNonDecreasingBy}
use Rattle.std.proofs.lemmas.Bool.{cases_lt, cases_order}
use Rattle.std.proofs.lemmas.Bool.Decides.{nat_tests}
use Rattle.std.proofs.lemmas.Int.{fits_signed_from_abs, ints, unsigned_abs-mul}
use Rattle.std.proofs.lemmas.List.{length-take, take_more}
use lib.IntN.{ℤ, pos, ◌+ℤ◌, ◌*ℤ◌}
use Rattle.ipet_program.specs.Counts.{listed, Rise, row_sum, value_from}
use Rattle.ipet_program.specs.Programs.{IsSmall}
use Rattle.ipet_program.specs.Programs.IsSmall.{above, below}
use Rattle.ipet_program.specs.declared.certificate.Count.{Count}
use Rattle.ipet_program.specs.declared.program.Term.{Term}
use Rattle.ipet_program.proofs.Terms.{row_sum-append}

listed-own : (count : Count) (more : List Count) (column : ℕ) → count.column ≡ column →
    listed (count ∷ more) column ≡ count.number
listed-own count more column same =
    let e : (count.column == column) ≡ true = grind (arith, nat_tests) in
    ap (λ (test : Bool). if test then count.number else listed more column) e

listed-other : (count : Count) (more : List Count) (column : ℕ) → (count.column ≡ column → ⊥) →
    listed (count ∷ more) column ≡ listed more column
listed-other count more column differ =
    let e : (count.column == column) ≡ false = grind (arith, nat_tests) in
    ap (λ (test : Bool). if test then count.number else listed more column) e

-- The first count of a column is the one that is listed.
pub listed-found : (counts : List Count) (column place : ℕ) (d : Count) → place < length counts →
    ((k : ℕ) → k < place → (get_or counts k d).column ≡ column → ⊥) → (get_or counts place d).column ≡ column →
    listed counts column ≡ (get_or counts place d).number
listed-found [] column place d less before same = absurd (omega arith)
listed-found (count ∷ more) column zero d less before same = listed-own count more column same
listed-found (count ∷ more) column (suc place) d less before same =
    listed-other count more column (before 0 (omega arith))
    ∙ listed-found more column place d (omega arith) (λ k h. before (suc k) (omega (arith, h))) same

-- Nothing is listed where no count is the column's.
pub listed-none : (counts : List Count) (column : ℕ) (d : Count) →
    ((k : ℕ) → k < length counts → (get_or counts k d).column ≡ column → ⊥) → listed counts column ≡ 0
listed-none [] column d differ = refl
listed-none (count ∷ more) column d differ =
    listed-other count more column (differ 0 (omega arith))
    ∙ listed-none more column d (λ k h. differ (suc k) (omega (arith, h)))

pub non_decreasing : (counts : List Count) → Rise counts → IsNonDecreasingBy (λ (count : Count). count.column) counts
non_decreasing counts rise = λ i j d up inside. at i j d up inside (cases_lt i j)
  where
    at : (i j : ℕ) (d : Count) → i ≤ j → j < length counts → (i < j) ⊎ (j ≤ i) →
        (get_or counts i d).column ≤ (get_or counts j d).column
    at i j d up inside (inl less) = omega (arith, rise i j d less inside)
    at i j d up inside (inr more) =
        let same : i ≡ j = omega arith in omega (arith, ap (λ k. (get_or counts k d).column) same)

-- ---- Parts of a sum.
small-abs : (factor : ℤ) → IsSmall factor → unsigned_abs factor ≤ 2 ^ 33
small-abs _ (above n less) = less
small-abs _ (below n less) = omega arith

pub part-small : (factor : ℤ) (number : ℕ) → IsSmall factor → number < 2 ^ 64 →
    unsigned_abs (factor *ℤ pos number) ≤ 2 ^ 97
part-small factor number small less =
    let one = small-abs factor small in
    let product : unsigned_abs (factor *ℤ pos number) ≡ unsigned_abs factor * number =
    unsigned_abs-mul factor (pos number) in
    let left : unsigned_abs factor * number ≤ unsigned_abs factor * 2 ^ 64 =
    mul-le-mul_left (unsigned_abs factor) (omega arith) in
    let right : 2 ^ 64 * unsigned_abs factor ≤ 2 ^ 64 * 2 ^ 33 = mul-le-mul_left (2 ^ 64) one in
    omega arith

-- A sum of so many parts.
pub sum-small : (sum part : ℤ) (n : ℕ) → unsigned_abs sum ≤ n * 2 ^ 97 → unsigned_abs part ≤ 2 ^ 97 →
    unsigned_abs (sum +ℤ part) ≤ (n + 1) * 2 ^ 97
sum-small sum part n one other = omega (arith, ints)

pub sum-fits : (z : ℤ) (n : ℕ) → n ≤ 2 ^ 28 → unsigned_abs z ≤ n * 2 ^ 97 → FitsSigned w128 z
sum-fits z n few small = fits_signed_from_abs w128 z (omega arith)

-- The value of one column more.
pub value_from-more : (start : ℕ) (counts : ℕ → ℕ) (values others : List ℤ) →
    value_from start counts (values ++ others)
    ≡ value_from start counts values +ℤ value_from (start + length values) counts others
value_from-more start counts [] others =
    let e : start + 0 ≡ start = omega arith in
    let same : value_from (start + 0) counts others ≡ value_from start counts others =
    ap (λ (n : ℕ). value_from n counts others) e in
    omega (arith, ints)
value_from-more start counts (value ∷ values) others =
    let rest = value_from-more (suc start) counts values others in
    let e : suc start + length values ≡ start + suc (length values) = omega arith in
    let same : value_from (suc start + length values) counts others
    ≡ value_from (start + suc (length values)) counts others = ap (λ (n : ℕ). value_from n counts others) e in
    omega (arith, ints)

pub total-more : (counts : ℕ → ℕ) (terms : List Term) (i : ℕ) (d : Term) → i < length terms →
    row_sum counts (take (i + 1) terms)
    ≡ row_sum counts (take i terms) +ℤ (get_or terms i d).factor *ℤ pos (counts (get_or terms i d).column)
total-more counts terms i d less =
    let term = get_or terms i d in
    let front = ap (row_sum counts) (take_more terms i d less) ∙ row_sum-append counts (take i terms) (term ∷ []) in
    omega (arith, ints)

pub value-more : (counts : ℕ → ℕ) (values : List ℤ) (i : ℕ) → i < length values →
    value_from 1 counts (take (i + 1) values)
    ≡ value_from 1 counts (take i values) +ℤ get_or values i (pos 0) *ℤ pos (counts (i + 1))
value-more counts values i less =
    let value = get_or values i (pos 0) in
    let long : 1 + length (take i values) ≡ i + 1 = simp length-take (omega arith) in
    let place : value *ℤ pos (counts (1 + length (take i values))) ≡ value *ℤ pos (counts (i + 1)) =
    ap (λ (n : ℕ). value *ℤ pos (counts n)) long in
    let front = ap (value_from 1 counts) (take_more values i (pos 0) less)
    ∙ value_from-more 1 counts (take i values) (value ∷ []) in
    omega (arith, ints)

-- Nothing is listed where the count behind the lesser ones is another column's.
pub listed-gap : (counts : List Count) (column place : ℕ) (d : Count) → Rise counts →
    ((k : ℕ) → k < place → k < length counts → (get_or counts k d).column < column) →
    ((k : ℕ) → place ≤ k → k < length counts → column ≤ (get_or counts k d).column) →
    (place < length counts → (get_or counts place d).column ≡ column → ⊥) → listed counts column ≡ 0
listed-gap counts column place d rise before behind differ =
    listed-none counts column d
    (λ k less same. elim (cases_order k place) as (λ _. ⊥) [
      | inl here ↦ differ (omega (arith, less, here))
          (ap (λ (n : ℕ). (get_or counts n d).column) (sym here) ∙ same)
      | inr (inl low) ↦ omega (arith, before k low less, same)
      | inr (inr high) ↦ omega (arith, rise place k d high less, behind place (omega arith) (omega (arith, high, less)), same)
    ])
