-- What stands at a place of a list that has one more item at its end, and numbers after a write.
use Rattle.std.proofs.Common.{◌≡◌, ℕ, ◌+◌, ◌<◌, ◌≤◌, List, [], ◌∷◌, ◌++◌, length, set, get_or, replicate, zero, suc, refl, sym, subst, ap, Some, arith, inl, inr, ◌⊎◌, count_by, cond, Bool, false}
use Rattle.std.specs.Prelude.{slice_get, ◌==◌}
use Rattle.std.proofs.lemmas.List.{get_or-set_same, get_or-set_other}
use Rattle.std.proofs.lemmas.List.Sums.{sum_by-cons, sum_by-set}
use Rattle.std.proofs.lemmas.Bool.Decides.{nat_tests}
use Rattle.std.proofs.lemmas.Option.{same_Some, none-some}
use Rattle.step_table.specs.Numbers.{number_of}

pub place_left : {X : Type 0} (xs ys : List X) (k : ℕ) (p : X) → slice_get xs k ≡ Some p →
    slice_get (xs ++ ys) k ≡ Some p
place_left [] ys k p h = absurd (none-some p h)
place_left (x ∷ xs) ys zero p h = h
place_left (x ∷ xs) ys (suc k) p h = place_left xs ys k p h

pub place_last : {X : Type 0} (xs : List X) (y : X) → slice_get (xs ++ y ∷ []) (length xs) ≡ Some y
place_last [] y = refl
place_last (x ∷ xs) y = place_last xs y

pub place_cases : {X : Type 0} (xs : List X) (y : X) (k : ℕ) (p : X) → slice_get (xs ++ y ∷ []) k ≡ Some p →
    (slice_get xs k ≡ Some p) ⊎ ((k ≡ length xs) × (y ≡ p))
place_cases [] y zero p h = inr (refl, same_Some y p h)
place_cases [] y (suc k) p h = absurd (none-some p h)
place_cases (x ∷ xs) y zero p h = inl h
place_cases (x ∷ xs) y (suc k) p h = elim (place_cases xs y k p h)
    as (λ _. (slice_get xs k ≡ Some p) ⊎ ((suc k ≡ suc (length xs)) × (y ≡ p))) [
      | inl e ↦ inl e
      | inr both ↦ inr (ap (λ n. suc n) both.0, both.1)
    ]

pub place_before : {X : Type 0} (xs : List X) (k : ℕ) (p : X) → slice_get xs (k + 1) ≡ Some p →
    (before : X) × (slice_get xs k ≡ Some before)
place_before [] k p h = absurd (none-some p h)
place_before (x ∷ xs) zero p h = (x, refl)
place_before {X} (x ∷ xs) (suc k) p h =
    place_before xs k p (subst (λ (at : ℕ). slice_get (x ∷ xs) at ≡ Some p) e h)
  where
    e : suc k + 1 ≡ suc (k + 1)
    e = omega arith

pub place_within : {X : Type 0} (xs : List X) (k : ℕ) (p : X) → slice_get xs k ≡ Some p → k < length xs
place_within [] k p h = absurd (none-some p h)
place_within (x ∷ xs) zero p h = omega arith
place_within (x ∷ xs) (suc k) p h = omega (arith, place_within xs k p h)

-- Numbers after a write.
pub number_same : (xs : List ℕ) (i v : ℕ) → i < length xs → number_of (set xs i v) i ≡ v
number_same xs i v within = get_or-set_same xs i v 0 within

pub number_other : (xs : List ℕ) (i v x : ℕ) → (x ≡ i → ⊥) → number_of (set xs i v) x ≡ number_of xs x
number_other xs i v x differ = get_or-set_other xs i x v 0 differ

pub number_none : (n x : ℕ) → number_of (replicate n 0) x ≡ 0
number_none zero x = refl
number_none (suc n) zero = refl
number_none (suc n) (suc x) = number_none n x

abbrev weight : ℕ → ℕ
weight v = cond (v == 0) 1 0

abbrev pub zeros : List ℕ → ℕ
zeros numbers = count_by (λ (n : ℕ). n == 0) numbers

pub zeros_none : (n : ℕ) → zeros (replicate n 0) ≡ n
zeros_none zero = refl
zeros_none (suc n) = omega (arith, zeros_none n, sum_by-cons weight 0 (replicate n 0))

weight_no : (v : ℕ) → 0 < v → weight v ≡ 0
weight_no v h = subst (λ (b : Bool). let n : ℕ = cond b 1 0 in n ≡ 0) (sym apart) refl
  where
    apart : (v == 0) ≡ false
    apart = grind (arith, nat_tests)

zeros_by : (xs : List ℕ) (i v d : ℕ) → i < length xs →
    zeros (set xs i v) + weight (get_or xs i d) ≡ zeros xs + weight v
zeros_by xs i v d within = sum_by-set weight xs i v d within

pub zeros_fewer : (xs : List ℕ) (i v : ℕ) → i < length xs → number_of xs i ≡ 0 → 0 < v →
    zeros (set xs i v) + 1 ≡ zeros xs
zeros_fewer xs i v within e h =
    omega (arith, weight_no v h, subst (λ (n : ℕ). zeros (set xs i v) + weight n ≡ zeros xs + weight v) e (zeros_by xs i v 0 within))

pub zeros_same : (xs : List ℕ) (i v : ℕ) → i < length xs → 0 < number_of xs i → 0 < v →
    zeros (set xs i v) ≡ zeros xs
zeros_same xs i v within e h = omega (arith, weight_no v h, weight_no (number_of xs i) e, zeros_by xs i v 0 within)

pub number_outside : (xs : List ℕ) (i : ℕ) → length xs ≤ i → number_of xs i ≡ 0
number_outside [] i h = refl
number_outside (x ∷ xs) zero h = absurd (omega arith)
number_outside (x ∷ xs) (suc i) h = number_outside xs i (omega arith)
