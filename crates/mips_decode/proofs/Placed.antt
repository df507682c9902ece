-- What registers hold after a write, and which places a set has.
use Rattle.std.proofs.Common.{◌≡◌, ℕ, ◌<◌, ◌==◌, ◌^◌, max, true, false, cond, [], ◌∷◌, length, refl, ap, ◌∙◌, sym, subst, inl, inr, arith}
use Rattle.std.specs.Prelude.{slice_set}
use Rattle.std.proofs.lemmas.Bool.{cases_eq}
use Rattle.std.proofs.lemmas.Bool.Decides.{nat_tests}
use Rattle.std.proofs.lemmas.List.{get_or-set_same, get_or-set_other}
use Rattle.std.proofs.lemmas.Nat.Bits.{bit_at_or, bit_at-pow_same, bit_at-lt}
use Rattle.mips_decode.specs.declared.step.Regs.{Regs}
use Rattle.mips_decode.specs.Columns.{hi, lo, bits_of, register}
use Rattle.mips_decode.specs.Effect.{reg, with_reg, with_hi_lo}
use Rattle.mips_decode.specs.Places.{Has, held_in, KeepsOthers, ChangeAlike}

test-false : (a b : ℕ) → (a ≡ b → ⊥) → (a == b) ≡ false
test-false a b differ = grind (arith, nat_tests)

max-left : (m n : ℕ) → m ≡ 1 → n < 2 → max m n ≡ 1
max-left m n e l = omega (arith, e, l)

max-right : (m n : ℕ) → n ≡ 1 → m < 2 → max m n ≡ 1
max-right m n e l = omega (arith, e, l)

-- A set of one or two places has each of them.
pub has-one : (a : ℕ) → Has (bits_of (a ∷ [])) a
has-one a = bit_at-pow_same a

pub has-first : (a b : ℕ) → Has (bits_of (a ∷ b ∷ [])) a
has-first a b = bit_at_or (2 ^ a) (2 ^ b) a ∙ max-left _ _ (bit_at-pow_same a) (bit_at-lt (2 ^ b) a)

pub has-second : (a b : ℕ) → Has (bits_of (a ∷ b ∷ [])) b
has-second a b = bit_at_or (2 ^ a) (2 ^ b) b ∙ max-right _ _ (bit_at-pow_same b) (bit_at-lt (2 ^ a) b)

-- A register's number is neither that of HI nor that of LO.
pub held-register : (regs : Regs) (number : ℕ) → number < 32 → held_in regs number ≡ reg regs number
held-register regs number low =
    ap (λ b. cond b regs.hi (cond (number == lo) regs.lo (reg regs number))) (test-false number hi (λ e. omega (arith, e, low)))
    ∙ ap (λ b. cond b regs.lo (reg regs number)) (test-false number lo (λ e. omega (arith, e, low)))

-- A place keeps what it held where another one is written.
set-other : (regs : Regs) (number value place : ℕ) → (place ≡ number → ⊥) →
    held_in (record regs { general = slice_set regs.general number value }) place ≡ held_in regs place
set-other regs number value place differ =
    ap (λ n. cond (place == hi) regs.hi (cond (place == lo) regs.lo n)) (get_or-set_other regs.general number place value 0 differ)

pub hi-other : (regs : Regs) (value place : ℕ) → (place ≡ hi → ⊥) →
    held_in (record regs { hi = value }) place ≡ held_in regs place
hi-other regs value place differ =
    let e : (place == hi) ≡ false = test-false place hi differ in
    let rest : ℕ = cond (place == lo) regs.lo (reg regs place) in
    ap (λ b. cond b value rest) e ∙ sym (ap (λ b. cond b regs.hi rest) e)

pub lo-other : (regs : Regs) (value place : ℕ) → (place ≡ lo → ⊥) →
    held_in (record regs { lo = value }) place ≡ held_in regs place
lo-other regs value place differ =
    let e : (place == lo) ≡ false = test-false place lo differ in
    ap (λ b. cond (place == hi) regs.hi (cond b value (reg regs place))) e
    ∙ sym (ap (λ b. cond (place == hi) regs.hi (cond b regs.lo (reg regs place))) e)

pub hi_lo-other : (regs : Regs) (upper lower place : ℕ) → (place ≡ hi → ⊥) → (place ≡ lo → ⊥) →
    held_in (with_hi_lo regs upper lower) place ≡ held_in regs place
hi_lo-other regs upper lower place not_hi not_lo =
    lo-other (record regs { hi = upper }) lower place not_lo ∙ hi-other regs upper place not_hi

-- A place outside a set isn't one of its places.
outside : (places place other : ℕ) → Has places other → ¬ Has places place → place ≡ other → ⊥
outside places place other has none e = none (subst (λ n. Has places n) (sym e) has)

-- Writes keep the other places.
pub keeps-all : (places : ℕ) (regs : Regs) → KeepsOthers places regs regs
keeps-all places regs = λ place none. refl

pub keeps-reg : (regs : Regs) (number value : ℕ) → KeepsOthers (bits_of (register number)) regs (with_reg regs number value)
keeps-reg regs number value =
    elim (number == 0) as (λ b. KeepsOthers (bits_of (cond b [] (number ∷ []))) regs
    (cond b regs (record regs { general = slice_set regs.general number value }))) [
      | true ↦ λ place none. refl
      | false ↦ λ place none. set-other regs number value place (outside _ place number (has-one number) none)
    ]

pub keeps-hi : (regs : Regs) (value : ℕ) → KeepsOthers (bits_of (hi ∷ [])) regs (record regs { hi = value })
keeps-hi regs value = λ place none. hi-other regs value place (outside _ place hi (has-one hi) none)

pub keeps-lo : (regs : Regs) (value : ℕ) → KeepsOthers (bits_of (lo ∷ [])) regs (record regs { lo = value })
keeps-lo regs value = λ place none. lo-other regs value place (outside _ place lo (has-one lo) none)

pub keeps-hi_lo : (regs : Regs) (upper lower : ℕ) → KeepsOthers (bits_of (hi ∷ lo ∷ [])) regs (with_hi_lo regs upper lower)
keeps-hi_lo regs upper lower = λ place none. hi_lo-other regs upper lower place
    (outside _ place hi (has-first hi lo) none) (outside _ place lo (has-second hi lo) none)

-- Writes of the same number change registers alike.
pub alike-all : (one other : Regs) → ChangeAlike one other one other
alike-all one other = λ place. inr (refl, refl)

set-same : (regs : Regs) (number value : ℕ) → number < 32 → length regs.general ≡ 32 →
    held_in (record regs { general = slice_set regs.general number value }) number ≡ value
set-same regs number value low count =
    held-register (record regs { general = slice_set regs.general number value }) number low
    ∙ get_or-set_same regs.general number value 0 (omega (arith, low, count))

set-alike : (one other : Regs) (number value : ℕ) → number < 32 → length one.general ≡ 32 → length other.general ≡ 32 →
    ChangeAlike one other (record one { general = slice_set one.general number value })
    (record other { general = slice_set other.general number value })
set-alike one other number value low count other_count = λ place. elim (cases_eq place number) [
  | inl e ↦ inl (subst (λ n. held_in (record one { general = slice_set one.general number value }) n
      ≡ held_in (record other { general = slice_set other.general number value }) n) (sym e)
      (set-same one number value low count ∙ sym (set-same other number value low other_count)))
  | inr differ ↦ inr (set-other one number value place differ, set-other other number value place differ)
]

pub alike-reg : (one other : Regs) (number value : ℕ) → number < 32 → length one.general ≡ 32 → length other.general ≡ 32 →
    ChangeAlike one other (with_reg one number value) (with_reg other number value)
alike-reg one other number value low count other_count =
    elim (number == 0) as (λ b. ChangeAlike one other
    (cond b one (record one { general = slice_set one.general number value }))
    (cond b other (record other { general = slice_set other.general number value }))) [
      | true ↦ alike-all one other
      | false ↦ set-alike one other number value low count other_count
    ]

pub alike-hi : (one other : Regs) (value : ℕ) → ChangeAlike one other (record one { hi = value }) (record other { hi = value })
alike-hi one other value = λ place. elim (cases_eq place hi) [
  | inl e ↦ inl (subst (λ n. held_in (record one { hi = value }) n ≡ held_in (record other { hi = value }) n) (sym e) refl)
  | inr differ ↦ inr (hi-other one value place differ, hi-other other value place differ)
]

pub alike-lo : (one other : Regs) (value : ℕ) → ChangeAlike one other (record one { lo = value }) (record other { lo = value })
alike-lo one other value = λ place. elim (cases_eq place lo) [
  | inl e ↦ inl (subst (λ n. held_in (record one { lo = value }) n ≡ held_in (record other { lo = value }) n) (sym e) refl)
  | inr differ ↦ inr (lo-other one value place differ, lo-other other value place differ)
]

pub alike-hi_lo : (one other : Regs) (upper lower : ℕ) →
    ChangeAlike one other (with_hi_lo one upper lower) (with_hi_lo other upper lower)
alike-hi_lo one other upper lower = λ place. elim (cases_eq place hi) [
  | inl e ↦ inl (subst (λ n. held_in (with_hi_lo one upper lower) n ≡ held_in (with_hi_lo other upper lower) n) (sym e) refl)
  | inr not_hi ↦ elim (cases_eq place lo) [
    | inl e ↦ inl (subst (λ n. held_in (with_hi_lo one upper lower) n ≡ held_in (with_hi_lo other upper lower) n) (sym e) refl)
    | inr not_lo ↦ inr (hi_lo-other one upper lower place not_hi not_lo, hi_lo-other other upper lower place not_hi not_lo)
  ]
]
