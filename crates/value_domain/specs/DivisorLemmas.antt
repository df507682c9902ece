-- The greatest common divisor divides both, and each common divisor divides it.
use Rattle.std.proofs.Common.{◌≡◌, ℕ, zero, suc, ◌<◌, ◌≤◌, ◌+◌, ◌%◌, ◌&&◌, Bool, true, false, cond, max, refl, sym, subst, ◌∙◌, arith, inl, inr}
use Rattle.std.specs.Int.{IsGcd, ◌∣◌}
use Rattle.std.proofs.lemmas.Nat.Gcd.{IsGcd-from_zero, IsGcd-from_mod, le_of_dvd, dvd_of_mod-eq-zero, mod-eq-zero_of_dvd}
use Rattle.std.proofs.lemmas.Bool.{cases_lt, and_parts, and_from, eqb-true, eq-eqb, true≢false}
use Rattle.value_domain.specs.Divisors.{divides, common_divisor, gcd}

pub divides_from : (step n : ℕ) → step ∣ n → divides step n ≡ true
divides_from step n d = eq-eqb _ _ (mod-eq-zero_of_dvd step d)

pub from_divides : (step n : ℕ) → divides step n ≡ true → step ∣ n
from_divides step n e = dvd_of_mod-eq-zero step (eqb-true _ _ e)

-- Euclid's steps come to a greatest common divisor.
euclid : (steps a b : ℕ) → b < steps → (g : ℕ) × IsGcd a b g
euclid zero a b lt = absurd (omega arith)
euclid (suc steps) a zero lt = (a, IsGcd-from_zero a 0 refl)
euclid (suc steps) a (suc b) lt =
    let e = euclid steps (suc b) (a % suc b) (omega arith) in
    (e.0, IsGcd-from_mod a (suc b) e.0 e.1)

-- A search from any limit that the greatest common divisor doesn't pass finds it.
both_divide : (a b g : ℕ) → IsGcd a b g → (divides g a && divides g b) ≡ true
both_divide a b g h = and_from _ _ (divides_from g a h.0) (divides_from g b h.1)

step_from : (test : Bool) (limit a b g : ℕ) → IsGcd a b g → 0 < g → g ≤ suc limit
    → (divides (suc limit) a && divides (suc limit) b) ≡ test → (g ≤ limit → common_divisor limit a b ≡ g)
    → cond test (suc limit) (common_divisor limit a b) ≡ g
step_from true limit a b g h p le e before =
    let q = and_parts _ _ e in
    let d : suc limit ∣ g = h.2 (suc limit) (from_divides _ _ q.0) (from_divides _ _ q.1) in
    let l : suc limit ≤ g = le_of_dvd p d in
    omega arith
step_from false limit a b g h p le e before = elim (cases_lt limit g) [
  | inl lt ↦
      let same : suc limit ≡ g = omega arith in
      absurd (true≢false (sym (subst (λ (n : ℕ). (divides n a && divides n b) ≡ true) (sym same) (both_divide a b g h)) ∙ e))
  | inr ge ↦ before ge
]

found_from : (limit a b g : ℕ) → IsGcd a b g → 0 < g → g ≤ limit → common_divisor limit a b ≡ g
found_from zero a b g h p le = absurd (omega arith)
found_from (suc limit) a b g h p le =
    step_from (divides (suc limit) a && divides (suc limit) b) limit a b g h p le refl (λ l. found_from limit a b g h p l)

positive_divisor : (a b g : ℕ) → IsGcd a b g → 0 < max a b → 0 < g
positive_divisor a b zero h p =
    let e = mod-eq-zero_of_dvd 0 h.0 in
    let f = mod-eq-zero_of_dvd 0 h.1 in
    absurd (omega (arith, e, f))
positive_divisor a b (suc g) h p = omega arith

within : (a b g : ℕ) → IsGcd a b g → 0 < max a b → g ≤ max a b
within a b g h p = elim (cases_lt 0 a) [
  | inl lt ↦ let l : g ≤ a = le_of_dvd lt h.0 in omega arith
  | inr ge ↦
      let q : 0 < b = omega arith in
      let l : g ≤ b = le_of_dvd q h.1 in
      omega arith
]

pub gcd-is : (a b : ℕ) → IsGcd a b (gcd a b)
unfolding gcd
gcd-is a b = elim (cases_lt 0 (max a b)) [
  | inl lt ↦
      let e = euclid (b + 1) a b (omega arith) in
      let same = found_from (max a b) a b e.0 e.1 (positive_divisor a b e.0 e.1 lt) (within a b e.0 e.1 lt) in
      subst (λ (n : ℕ). IsGcd a b n) (sym same) e.1
  | inr ge ↦
      let p : a ≡ 0 = omega arith in
      let q : b ≡ 0 = omega arith in
      rw (p, q) (IsGcd-from_zero 0 0 refl)
]

pub no_step : gcd 0 0 ≡ 0
unfolding gcd
no_step = refl
