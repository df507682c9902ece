-- Products of the bounds of the loops round a place.
use Rattle.std.proofs.Common.{◌≡◌, ℕ, zero, suc, ◌*◌, ◌≤◌, Bool, true, false, Option, Some, None, refl, sym, ap, ◌∙◌, inl, inr, arith}
use Rattle.std.specs.Prelude.{if◌then◌else◌}
use Rattle.std.proofs.Math.Nat.{mul-le-mul_left}
use Rattle.std.proofs.lemmas.Bool.{cases_eq}
use Rattle.flow_net.specs.Nested.{IsNested}
use Rattle.flow_net.specs.Numbers.{item_at}
use Rattle.flow_net.specs.Scopes.{holds_of}
use Rattle.flow_net.specs.declared.net.LoopInst.{LoopInst}
use Rattle.flow_net.specs.declared.net.Net.{Net}
use Rattle.flow_net.proofs.Numbers.{item_at-all}
use Rattle.ipet_program.specs.Scopes.{bound_of}
use Rattle.ipet_program.specs.Sums.{product_to}

pub mul-le : (a b c d : ℕ) → a ≤ b → c ≤ d → a * c ≤ b * d
mul-le a b c d h k =
    let one : a * c ≤ a * d = mul-le-mul_left a k in
    let other : d * a ≤ d * b = mul-le-mul_left d h in
    omega arith

pub product-order : (n : ℕ) (f g : ℕ → ℕ) → ((k : ℕ) → 1 ≤ k → k ≤ n → f k ≤ g k) → product_to n f ≤ product_to n g
product-order zero f g h = omega arith
product-order (suc n) f g h =
    mul-le (product_to n f) (product_to n g) (f (suc n)) (g (suc n))
    (product-order n f g (λ k low high. h k low (omega arith))) (h (suc n) (omega arith) (omega arith))

pub product-positive : (n : ℕ) (f : ℕ → ℕ) → ((k : ℕ) → 1 ≤ f k) → 1 ≤ product_to n f
product-positive zero f h = omega arith
product-positive (suc n) f h = mul-le 1 (product_to n f) 1 (f (suc n)) (product-positive n f h) (h (suc n))

-- One factor more.
pub product-step : (n : ℕ) (f g : ℕ → ℕ) (at b : ℕ) → 1 ≤ at → at ≤ n → ((k : ℕ) → (k ≡ at → ⊥) → g k ≤ f k) →
    f at ≡ b → g at ≡ 1 → b * product_to n g ≤ product_to n f
product-step zero f g at b low high h is one = absurd (omega arith)
product-step (suc n) f g at b low high h is one =
    elim (cases_eq at (suc n)) as (λ _. b * product_to (suc n) g ≤ product_to (suc n) f) [
      | inl same ↦
          let rest = product-order n g f (λ k from to. h k (λ e. omega (arith, to, e, same))) in
          let last : g (suc n) ≡ 1 = ap g (sym same) ∙ one in
          let first : f (suc n) ≡ b = ap f (sym same) ∙ is in
          let order : b * product_to n g ≤ b * product_to n f = mul-le-mul_left b rest in
          let left : product_to n g * g (suc n) ≡ product_to n g * 1 = ap (λ (m : ℕ). product_to n g * m) last in
          let right : product_to n f * f (suc n) ≡ product_to n f * b = ap (λ (m : ℕ). product_to n f * m) first in
          let whole : b * (product_to n g * g (suc n)) ≡ b * (product_to n g * 1) = ap (λ (m : ℕ). b * m) left in
          omega (arith, order, right, whole)
      | inr differ ↦
          let rest = product-step n f g at b low (omega (arith, differ)) h is one in
          let last = h (suc n) (λ e. differ (sym e)) in
          let both = mul-le (b * product_to n g) (product_to n f) (g (suc n)) (f (suc n)) rest last in
          omega (arith, both)
    ]

-- The factor of a scope at a place.
abbrev pub turn : Net → ℕ → ℕ → ℕ
turn net place scope = if holds_of net scope place then bound_of (item_at scope net.loops) else 1

bound-positive : (net : Net) → IsNested net → (scope : ℕ) (found : Option LoopInst) →
    item_at scope net.loops ≡ found → 1 ≤ bound_of found
bound-positive net nested scope None e = omega arith
bound-positive net nested scope (Some inst) e =
    item_at-all (λ (i : LoopInst). 1 ≤ i.bound) net.loops scope inst nested.bounds e

chosen-positive : (test : Bool) (n : ℕ) → 1 ≤ n → 1 ≤ (if test then n else 1)
chosen-positive true n h = h
chosen-positive false n h = omega arith

chosen-order : (test other : Bool) (n : ℕ) → 1 ≤ n → (test ≡ true → other ≡ true) →
    (if test then n else 1) ≤ (if other then n else 1)
chosen-order true true n low h = omega arith
chosen-order true false n low h = absurd (let e = h refl in cc)
chosen-order false true n low h = low
chosen-order false false n low h = omega arith

pub turn-positive : (net : Net) → IsNested net → (place scope : ℕ) →
    1 ≤ turn net place scope
turn-positive net nested place scope =
    chosen-positive (holds_of net scope place) (bound_of (item_at scope net.loops))
    (bound-positive net nested scope (item_at scope net.loops) refl)

pub turn-order : (net : Net) → IsNested net → (place other scope : ℕ) →
    (holds_of net scope place ≡ true → holds_of net scope other ≡ true) →
    turn net place scope ≤ turn net other scope
turn-order net nested place other scope h =
    chosen-order (holds_of net scope place) (holds_of net scope other) (bound_of (item_at scope net.loops))
    (bound-positive net nested scope (item_at scope net.loops) refl) h

pub turn-held : (net : Net) (place scope : ℕ) (inst : LoopInst) →
    item_at scope net.loops ≡ Some inst → holds_of net scope place ≡ true → turn net place scope ≡ inst.bound
turn-held net place scope inst there held =
    ap (λ (test : Bool). if test then bound_of (item_at scope net.loops) else 1) held ∙ ap bound_of there

pub turn-free : (net : Net) (place scope : ℕ) → holds_of net scope place ≡ false →
    turn net place scope ≡ 1
turn-free net place scope free =
    ap (λ (test : Bool). if test then bound_of (item_at scope net.loops) else 1) free
