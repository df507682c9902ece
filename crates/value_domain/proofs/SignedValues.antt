-- Signed results as numbers modulo 2 ^ 32: sums, differences and shifts.
use Rattle.std.proofs.Common.{◌≡◌, ℕ, zero, suc, ◌<◌, ◌≤◌, ◌+◌, ◌-◌, ◌*◌, ◌/◌, ◌%◌, ◌^◌, Bool, true, false, cond, Some, None, refl, sym, ap, subst, ◌∙◌, arith, inl, inr, ℤ, pos, negsuc}
use Rattle.std.specs.Prelude.{◌+ℤ◌, ◌-ℤ◌, FitsSigned}
use Rattle.std.specs.Int.{w32, cast_signed, cast_unsigned, int_wrap, int_shr}
use Rattle.std.proofs.lemmas.Bool.{ltb-true, cases_lt}
use Rattle.std.proofs.lemmas.Int.{ints, int_wrap_fits, of_z-to_z, wrapping_add-bits, wrapping_sub-bits}
use Rattle.std.proofs.lemmas.Nat.{pow_pos, pow-add, div_below}
use Rattle.std.proofs.Math.Nat.{add-mul-div_left, div-add-mod, div-eq_of_lt-le, div-le_self}
use Rattle.mips_decode.specs.declared.instr.ShiftOp.TheVariants.{Sra}
use Rattle.mips_decode.specs.Arithmetic.{fits_signed, signed_result, signed, shift_value}
use Rattle.value_domain.proofs.LessSpans.{signed_low, signed_high}

fits : (z : ℤ) → fits_signed z ≡ true → FitsSigned w32 z
fits (pos n) e = search (ints, arith, ltb-true n (2 ^ 31) e)
fits (negsuc n) e = search (ints, arith, ltb-true n (2 ^ 31) e)

chosen : (b : Bool) (m n : ℕ) → cond b (Some m) None ≡ Some n → (b ≡ true) × (m ≡ n)
chosen true m n e = (refl, cc)
chosen false m n e = absurd cc

-- A signed result that fits is the number whose signed value it is.
trapless : (z : ℤ) (m n : ℕ) → m < 2 ^ 32 → cast_signed w32 m ≡ int_wrap w32 z → signed_result z ≡ Some n → n ≡ m
trapless z m n lt w e =
    let c = chosen (fits_signed z) (cast_unsigned w32 z) n e in
    let same : int_wrap w32 z ≡ z = int_wrap_fits w32 z (fits z c.0) in
    sym c.1 ∙ ap (cast_unsigned w32) (sym (w ∙ same)) ∙ of_z-to_z w32 m lt

pub sum_of : (x y n : ℕ) → x < 2 ^ 32 → y < 2 ^ 32 → signed_result (signed x +ℤ signed y) ≡ Some n → n ≡ (x + y) % 2 ^ 32
sum_of x y n p q e = trapless (signed x +ℤ signed y) ((x + y) % 2 ^ 32) n (omega arith) (wrapping_add-bits w32 x y p q) e

pub difference_of : (x y n : ℕ) → x < 2 ^ 32 → y < 2 ^ 32 → signed_result (signed x -ℤ signed y) ≡ Some n
    → n ≡ (x + (2 ^ 32 - y)) % 2 ^ 32
difference_of x y n p q e =
    trapless (signed x -ℤ signed y) ((x + (2 ^ 32 - y)) % 2 ^ 32) n (omega arith) (wrapping_sub-bits w32 x y p q) e

-- ---- the shift that repeats the sign

mirrored_parts : (m q r j : ℕ) → r < m → (m * (q + 1 + j) - 1 - (m * q + r)) / m ≡ j
mirrored_parts m q r j lt = div-eq_of_lt-le m (omega arith) (omega arith)

-- A quotient from the other end.
mirrored : (m k t : ℕ) → 0 < m → t < k * m → (m * k - 1 - t) / m ≡ k - 1 - t / m
mirrored m k t p lt =
    let b : t / m < k = div_below t m k p lt in
    let e : k ≡ t / m + 1 + (k - 1 - t / m) = omega arith in
    let d : m * (t / m) + t % m ≡ t = div-add-mod t m in
    let s : (m * (t / m + 1 + (k - 1 - t / m)) - 1 - (m * (t / m) + t % m)) / m ≡ k - 1 - t / m =
    mirrored_parts m (t / m) (t % m) (k - 1 - t / m) (mod_small t m p) in
    subst (λ (n : ℕ). (m * n - 1 - t) / m ≡ k - 1 - t / m) (sym e)
    (subst (λ (n : ℕ). (m * (t / m + 1 + (k - 1 - t / m)) - 1 - n) / m ≡ k - 1 - t / m) d s)
  where
    mod_small : (t m : ℕ) → 0 < m → t % m < m
    mod_small t m p = omega arith

shifted_low : (x m k : ℕ) → 0 < m → m * k ≡ 2 ^ 31 → x < 2 ^ 31 → k ≤ 2 ^ 31
    → x / m ≡ ((x + 2 ^ 31) % 2 ^ 32 / m + (2 ^ 32 - k)) % 2 ^ 32
shifted_low x m k p e lt le =
    let f : (x + 2 ^ 31) % 2 ^ 32 ≡ x + m * k = omega (arith, e) in
    let g : (x + m * k) / m ≡ x / m + k = add-mul-div_left x k p in
    rw (f, g) (omega (arith, div-le_self x m))

shifted_high : (x m k : ℕ) → 0 < m → m * k ≡ 2 ^ 31 → 2 ^ 31 ≤ x → x < 2 ^ 32 → 0 < k → k ≤ 2 ^ 31
    → 2 ^ 32 - suc ((2 ^ 32 - suc x) / m) ≡ ((x + 2 ^ 31) % 2 ^ 32 / m + (2 ^ 32 - k)) % 2 ^ 32
shifted_high x m k p e ge lt q le =
    let t = x - 2 ^ 31 in
    let f : (x + 2 ^ 31) % 2 ^ 32 ≡ t = omega arith in
    let u : 2 ^ 32 - suc x ≡ m * k - 1 - t = omega (arith, e) in
    let s : t < k * m = omega (arith, e) in
    let g : (m * k - 1 - t) / m ≡ k - 1 - t / m = mirrored m k t p s in
    let b : t / m < k = div_below t m k p s in
    rw (f, u, g) (omega arith)

pub shift_of : (x by : ℕ) → x < 2 ^ 32 → by < 32
    → shift_value Sra x by ≡ ((x + 2 ^ 31) % 2 ^ 32 / 2 ^ by + (2 ^ 32 - 2 ^ (31 - by))) % 2 ^ 32
shift_of x by lt small =
    let e : by + (31 - by) ≡ 31 = omega arith in
    let f : 2 ^ by * 2 ^ (31 - by) ≡ 2 ^ 31 = sym (pow-add 2 by (31 - by)) ∙ ap (λ (n : ℕ). 2 ^ n) e in
    let b : 2 ^ (31 - by) ≤ 2 ^ 31 = at_most (2 ^ by) (2 ^ (31 - by)) (2 ^ 31) (pow_pos by) f in
    elim (cases_lt x (2 ^ 31)) [
      | inl low ↦ ap (λ (z : ℤ). cast_unsigned w32 (int_shr z by)) (signed_low x low) ∙ shifted_low x (2 ^ by) (2 ^ (31 - by)) (pow_pos by) f low b
      | inr high ↦ ap (λ (z : ℤ). cast_unsigned w32 (int_shr z by)) (signed_high x high)
          ∙ shifted_high x (2 ^ by) (2 ^ (31 - by)) (pow_pos by) f high lt (pow_pos (31 - by)) b
    ]
  where
    at_most : (m k n : ℕ) → 0 < m → m * k ≡ n → k ≤ n
    at_most zero k n p e = absurd (omega arith)
    at_most (suc m) k n p e = omega (arith, e)
