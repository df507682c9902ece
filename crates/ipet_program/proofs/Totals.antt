-- Sums of whole numbers over the columns 1 to n.
use Rattle.std.proofs.Common.{◌≡◌, ℕ, zero, suc, ◌≤◌, refl, ap, inl, inr, arith}
use Rattle.std.proofs.lemmas.Bool.{cases_eq}
use Rattle.std.proofs.lemmas.Int.{ints}
use lib.IntN.{ℤ, pos, ◌+ℤ◌, ◌*ℤ◌}
use lib.Signed.{◌≤ℤ◌}
use Rattle.ipet_program.proofs.Whole.{mul-sum}

-- The sum of what a function gives for 1, 2 and so on.
abbrev pub total_to : ℕ → (ℕ → ℤ) → ℤ
total_to zero f = pos 0
total_to (suc n) f = total_to n f +ℤ f (suc n)

pub total_to-same : (f g : ℕ → ℤ) (n : ℕ) → ((j : ℕ) → 1 ≤ j → j ≤ n → f j ≡ g j) →
    total_to n f ≡ total_to n g
total_to-same f g zero h = refl
total_to-same f g (suc n) h =
    let rest = total_to-same f g n (λ j low high. h j low (omega arith)) in
    let last = h (suc n) (omega arith) (omega arith) in
    cc

pub total_to-order : (f g : ℕ → ℤ) (n : ℕ) → ((j : ℕ) → 1 ≤ j → j ≤ n → f j ≤ℤ g j) →
    total_to n f ≤ℤ total_to n g
total_to-order f g zero h = omega (arith, ints)
total_to-order f g (suc n) h =
    let rest = total_to-order f g n (λ j low high. h j low (omega arith)) in
    let last = h (suc n) (omega arith) (omega arith) in
    omega (arith, ints)

pub total_to-sum : (f g : ℕ → ℤ) (n : ℕ) →
    total_to n (λ j. f j +ℤ g j) ≡ total_to n f +ℤ total_to n g
total_to-sum f g zero = refl
total_to-sum f g (suc n) =
    let rest = total_to-sum f g n in
    omega (arith, ints)

pub total_to-scaled : (a : ℤ) (f : ℕ → ℤ) (n : ℕ) →
    total_to n (λ j. a *ℤ f j) ≡ a *ℤ total_to n f
total_to-scaled a f zero = omega (arith, ints)
total_to-scaled a f (suc n) =
    let rest = total_to-scaled a f n in
    let product = mul-sum a (total_to n f) (f (suc n)) in
    omega (arith, ints)

pub total_to-none : (f : ℕ → ℤ) (n : ℕ) → ((j : ℕ) → 1 ≤ j → j ≤ n → f j ≡ pos 0) → total_to n f ≡ pos 0
total_to-none f zero h = refl
total_to-none f (suc n) h =
    let rest = total_to-none f n (λ j low high. h j low (omega arith)) in
    let last = h (suc n) (omega arith) (omega arith) in
    omega (arith, ints)

-- A sum in which one column alone counts.
pub total_to-one : (f : ℕ → ℤ) (n column : ℕ) → 1 ≤ column → column ≤ n →
    ((j : ℕ) → (j ≡ column → ⊥) → f j ≡ pos 0) → total_to n f ≡ f column
total_to-one f zero column low high h = absurd (omega arith)
total_to-one f (suc n) column low high h =
    elim (cases_eq (suc n) column) as (λ _. total_to (suc n) f ≡ f column) [
      | inl e ↦
          let rest = total_to-none f n (λ j from to. h j (λ same. omega (arith, e, same))) in
          let last : f (suc n) ≡ f column = ap f e in
          omega (arith, ints)
      | inr differ ↦
          let rest = total_to-one f n column low (omega (arith, differ)) h in
          let last = h (suc n) differ in
          omega (arith, ints)
    ]
