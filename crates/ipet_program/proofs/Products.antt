-- Sums and products over the numbers from 1 up to a number.
use Rattle.std.proofs.Common.{◌≡◌, ℕ, zero, suc, ◌*◌, ◌≤◌, ◌==◌, refl, ◌∙◌, ap, inl, inr, arith}
use Rattle.std.proofs.lemmas.Bool.{cases_eq}
use Rattle.std.proofs.lemmas.Bool.Decides.{nat_tests}
use Rattle.std.specs.Prelude.{if◌then◌else◌}
use Rattle.ipet_program.specs.Sums.{product_to, sum_to}

pub product_to-same : (n : ℕ) (f g : ℕ → ℕ) → ((k : ℕ) → 1 ≤ k → k ≤ n → f k ≡ g k) →
    product_to n f ≡ product_to n g
product_to-same zero f g same = refl
product_to-same (suc n) f g same =
    let before : product_to n f ≡ product_to n g =
    product_to-same n f g (λ k low high. same k low (omega arith)) in
    let last : f (suc n) ≡ g (suc n) = same (suc n) (omega arith) (omega arith) in
    (cc)

pub product_to-ones : (n : ℕ) (f : ℕ → ℕ) → ((k : ℕ) → 1 ≤ k → k ≤ n → f k ≡ 1) → product_to n f ≡ 1
product_to-ones zero f one = refl
product_to-ones (suc n) f one =
    let before : product_to n f ≡ 1 = product_to-ones n f (λ k low high. one k low (omega arith)) in
    let last : f (suc n) ≡ 1 = one (suc n) (omega arith) (omega arith) in
    rw (before, last) refl

regrouped : (a b c d : ℕ) → (a * b) * (c * d) ≡ (a * c) * (b * d)
regrouped a b c d = omega arith

pub product_to-mul : (n : ℕ) (f g : ℕ → ℕ) → product_to n (λ k. f k * g k) ≡ product_to n f * product_to n g
product_to-mul zero f g = refl
product_to-mul (suc n) f g =
    ap (λ (x : ℕ). x * (f (suc n) * g (suc n))) (product_to-mul n f g)
    ∙ regrouped (product_to n f) (product_to n g) (f (suc n)) (g (suc n))

not_at : (k t b : ℕ) → (k ≡ t → ⊥) → (if k == t then b else 1) ≡ 1
not_at k t b differ = grind (arith, nat_tests)

at_it : (k t b : ℕ) → k ≡ t → (if k == t then b else 1) ≡ b
at_it k t b same = grind (arith, nat_tests)

-- A product in which one factor alone isn't 1.
pub product_to-at : (n t b : ℕ) → 1 ≤ t → t ≤ n → product_to n (λ k. if k == t then b else 1) ≡ b
product_to-at zero t b low high = absurd (omega arith)
product_to-at (suc n) t b low high =
    elim (cases_eq (suc n) t) as (λ _. product_to (suc n) (λ k. if k == t then b else 1) ≡ b) [
      | inl e ↦
          let before : product_to n (λ k. if k == t then b else 1) ≡ 1 =
          product_to-ones n (λ k. if k == t then b else 1)
          (λ k least most. not_at k t b (λ same. omega (arith, same, e))) in
          let last : (if suc n == t then b else 1) ≡ b = at_it (suc n) t b e in
          ap (λ (x : ℕ). x * (if suc n == t then b else 1)) before ∙ ap (λ (x : ℕ). 1 * x) last ∙ omega arith
      | inr differ ↦
          let before : product_to n (λ k. if k == t then b else 1) ≡ b =
          product_to-at n t b low (omega (arith, differ, high)) in
          let last : (if suc n == t then b else 1) ≡ 1 = not_at (suc n) t b differ in
          ap (λ (x : ℕ). x * (if suc n == t then b else 1)) before ∙ ap (λ (x : ℕ). b * x) last ∙ omega arith
    ]

-- No addend exceeds the sum.
pub sum_to-least : (n : ℕ) (f : ℕ → ℕ) (k : ℕ) → 1 ≤ k → k ≤ n → f k ≤ sum_to n f
sum_to-least zero f k low high = absurd (omega arith)
sum_to-least (suc n) f k low high =
    elim (cases_eq k (suc n)) as (λ _. f k ≤ sum_to (suc n) f) [
      | inl e ↦ omega (arith, ap f e)
      | inr differ ↦ omega (arith, sum_to-least n f k low (omega (arith, differ, high)))
    ]
