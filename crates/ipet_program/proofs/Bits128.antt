-- Sums and products of numbers that are kept with 128 bits.
use Rattle.std.proofs.Common.{◌≡◌, ℕ, zero, suc, ◌+◌, ◌*◌, ◌-◌, ◌^◌, ◌≤◌, refl, sym, ◌∙◌, ap, inl, inr, ◌⊎◌, arith}
use Rattle.ipet_program.specs.Tables.{in_128}

small_or_great : (a : ℕ) → ((a ≤ 2 ^ 128 - 1) × (in_128 a ≡ a)) ⊎ ((2 ^ 128 - 1 ≤ a) × (in_128 a ≡ 2 ^ 128 - 1))
small_or_great a = by_sides (dec a) where
  dec : (a : ℕ) → (a ≤ 2 ^ 128 - 1) ⊎ (2 ^ 128 - 1 ≤ a)
  dec a = grind arith

  by_sides : (a ≤ 2 ^ 128 - 1) ⊎ (2 ^ 128 - 1 ≤ a) →
      ((a ≤ 2 ^ 128 - 1) × (in_128 a ≡ a)) ⊎ ((2 ^ 128 - 1 ≤ a) × (in_128 a ≡ 2 ^ 128 - 1))
  by_sides (inl h) = inl (h, omega arith)
  by_sides (inr h) = inr (h, omega arith)

great_times : (a b : ℕ) → a ≤ a * suc b
great_times a b = omega arith

-- A product is kept as that of its kept factor.
pub in_128-mul : (a b : ℕ) → in_128 (in_128 a * b) ≡ in_128 (a * b)
in_128-mul a zero = ap in_128 (let e : in_128 a * 0 ≡ a * 0 = omega arith in e)
in_128-mul a (suc b) =
    elim (small_or_great a) as (λ _. in_128 (in_128 a * suc b) ≡ in_128 (a * suc b)) [
      | inl h ↦ ap (λ (x : ℕ). in_128 (x * suc b)) h.1
      | inr h ↦ ap (λ (x : ℕ). in_128 (x * suc b)) h.1
          ∙ (let low : 2 ^ 128 - 1 ≤ (2 ^ 128 - 1) * suc b = great_times (2 ^ 128 - 1) b in
          let high : 2 ^ 128 - 1 ≤ a * suc b = omega (arith, great_times a b, h.0) in
          omega (arith, low, high))
    ]

pub in_128-add : (a b : ℕ) → in_128 (in_128 a + in_128 b) ≡ in_128 (a + b)
in_128-add a b = omega arith

-- A product that has been kept so far, and what is left of it.
pub record IsKept (all now left : ℕ) : Type 0 where
  pub product : ℕ
  pub kept : now ≡ in_128 product
  pub total : product * left ≡ all

pub kept-first : (all : ℕ) → IsKept all 1 all
kept-first all = record { product = 1; kept = refl; total = omega arith }

regrouped : (a b c : ℕ) → (a * b) * c ≡ a * (b * c)
regrouped a b c = omega arith

pub kept-next : (all now left factor next after : ℕ) → IsKept all now left → left ≡ factor * next →
    after ≡ in_128 (now * factor) → IsKept all after next
kept-next all now left factor next after is parts same =
    record {
      product = is.product * factor;
      kept = same ∙ ap (λ (x : ℕ). in_128 (x * factor)) is.kept ∙ in_128-mul is.product factor;
      total = regrouped is.product factor next ∙ ap (λ (x : ℕ). is.product * x) (sym parts) ∙ is.total;
    }

pub kept-last : (all now left : ℕ) → IsKept all now left → left ≡ 1 → now ≡ in_128 all
kept-last all now left is one =
    let whole : is.product ≡ all = omega (arith, ap (λ (x : ℕ). is.product * x) one, is.total) in
    is.kept ∙ ap in_128 whole
