-- Sums over the numbers from 1 up to a number.
use Rattle.std.proofs.Common.{◌≡◌, ℕ, zero, suc, ◌+◌, ◌*◌, ◌≤◌, refl, sym, ap, ap₂, ◌∙◌, inl, inr, arith}
use Rattle.std.proofs.lemmas.Bool.{cases_eq}
use Rattle.ipet_program.specs.Sums.{sum_to}
use Rattle.nest_solver.specs.Shape.{IsUpTo}

pub up_more : (n i : ℕ) → IsUpTo n i → IsUpTo (suc n) i
up_more n i u = omega (arith, u)

pub up_last : (n : ℕ) → IsUpTo (suc n) (suc n)
up_last n = omega arith

pub sum-same : (n : ℕ) (f g : ℕ → ℕ) → ((i : ℕ) → IsUpTo n i → f i ≡ g i) → sum_to n f ≡ sum_to n g
sum-same zero f g h = refl
sum-same (suc n) f g h =
    ap₂ (λ a b. a + b) (sum-same n f g (λ i u. h i (up_more n i u))) (h (suc n) (up_last n))

pub sum-le : (n : ℕ) (f g : ℕ → ℕ) → ((i : ℕ) → IsUpTo n i → f i ≤ g i) → sum_to n f ≤ sum_to n g
sum-le zero f g h = omega arith
sum-le (suc n) f g h =
    omega (arith, sum-le n f g (λ i u. h i (up_more n i u)), h (suc n) (up_last n))

pub sum-add : (n : ℕ) (f g : ℕ → ℕ) → sum_to n (λ i. f i + g i) ≡ sum_to n f + sum_to n g
sum-add zero f g = refl
sum-add (suc n) f g = omega (arith, sum-add n f g)

pub sum-scale : (n k : ℕ) (f : ℕ → ℕ) → sum_to n (λ i. k * f i) ≡ k * sum_to n f
sum-scale zero k f = omega arith
sum-scale (suc n) k f = omega (arith, sum-scale n k f)

pub sum-none : (n : ℕ) (f : ℕ → ℕ) → ((i : ℕ) → IsUpTo n i → f i ≡ 0) → sum_to n f ≡ 0
sum-none zero f h = refl
sum-none (suc n) f h =
    omega (arith, sum-none n f (λ i u. h i (up_more n i u)), h (suc n) (up_last n))

-- Where only one number counts the sum is what it gives.
pub sum-only : (n k : ℕ) (f : ℕ → ℕ) → IsUpTo n k →
    ((i : ℕ) → IsUpTo n i → (i ≡ k → ⊥) → f i ≡ 0) → sum_to n f ≡ f k
sum-only zero k f u h = absurd (omega (arith, u))
sum-only (suc n) k f u h =
    elim (cases_eq k (suc n)) as (λ _. sum_to n f + f (suc n) ≡ f k) [
      | inl e ↦ omega (
        arith,
        ap f e,
        sum-none n f (λ i v. h i (up_more n i v) (λ same. omega (arith, v, same, e))),
      )
      | inr differ ↦ omega (
        arith,
        h (suc n) (up_last n) (λ same. differ (sym same)),
        sum-only n k f (omega (arith, u, differ)) (λ i v. h i (up_more n i v)),
      )
    ]

-- Each part is at most the sum.
pub sum-part : (n k : ℕ) (f : ℕ → ℕ) → IsUpTo n k → f k ≤ sum_to n f
sum-part zero k f u = absurd (omega (arith, u))
sum-part (suc n) k f u =
    elim (cases_eq k (suc n)) as (λ _. f k ≤ sum_to n f + f (suc n)) [
      | inl e ↦ omega (arith, ap f e)
      | inr differ ↦ omega (arith, sum-part n k f (omega (arith, u, differ)))
    ]

-- Of a sum of sums either may stand outside.
pub sum-swap : (n m : ℕ) (f : ℕ → ℕ → ℕ) →
    sum_to n (λ i. sum_to m (λ j. f i j)) ≡ sum_to m (λ j. sum_to n (λ i. f i j))
sum-swap zero m f = sym (sum-none m (λ j. 0) (λ j u. refl))
sum-swap (suc n) m f =
    ap (λ a. a + sum_to m (λ j. f (suc n) j)) (sum-swap n m f)
    ∙ sym (sum-add m (λ j. sum_to n (λ i. f i j)) (λ j. f (suc n) j))
