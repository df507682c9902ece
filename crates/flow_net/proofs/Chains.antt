-- Chains of outer scopes end: how many scopes lie around one, and what follows from an end.
use Rattle.std.proofs.Common.{◌≡◌, ℕ, ◌+◌, ◌-◌, ◌<◌, ◌≤◌, nat_lt, cond, Bool, true, false, List, length, get_or, All, Option, Some, None, zero, suc, refl, sym, ◌∙◌, subst, inl, inr, ◌⊎◌, arith}
use Rattle.std.proofs.lemmas.Bool.{cases_eq}
use Rattle.std.proofs.lemmas.Option.{none-some}
use Rattle.std.proofs.lemmas.Bool.Decides.{nat_tests}
use Rattle.flow_net.specs.Numbers.{item_at, IsNumberOrZero}
use Rattle.flow_net.specs.Scopes.{IsWithin, ChainsEnd}
use Rattle.flow_net.specs.Scopes.IsWithin.{here, out}
use Rattle.flow_net.specs.declared.net.LoopInst.{LoopInst}
use Rattle.flow_net.proofs.Numbers.{item_at-all, item_at-there}
use Rattle.flow_net.proofs.Within.{within-same, within-cases, within-next}

-- How many of the n scopes from 0 on have a depth below a number.
abbrev shallower : (ℕ → ℕ) → ℕ → ℕ → ℕ
shallower depth high zero = 0
shallower depth high (suc n) = cond (nat_lt (depth n) high) 1 0 + shallower depth high n

one_more : (d low high : ℕ) → low ≤ high → cond (nat_lt d low) 1 0 ≤ cond (nat_lt d high) 1 0
one_more d low high h = grind (arith, nat_tests)

one_new : (d high : ℕ) → d < high → cond (nat_lt d d) 1 0 < cond (nat_lt d high) 1 0
one_new d high h = grind (arith, nat_tests)

shallower-more : (depth : ℕ → ℕ) (low high n : ℕ) → low ≤ high →
    shallower depth low n ≤ shallower depth high n
shallower-more depth low high zero h = omega arith
shallower-more depth low high (suc n) h =
    omega (arith, one_more (depth n) low high h, shallower-more depth low high n h)

-- A scope counts itself only where the number is above its depth.
shallower-falls : (depth : ℕ → ℕ) (scope high n : ℕ) → scope < n → depth scope < high →
    shallower depth (depth scope) n < shallower depth high n
shallower-falls depth scope high zero less h = absurd (omega arith)
shallower-falls depth scope high (suc n) less h =
    elim (cases_eq scope n)
    as (λ _. shallower depth (depth scope) (suc n) < shallower depth high (suc n)) [
      | inl e ↦ subst (λ (at : ℕ). depth at < high →
          shallower depth (depth at) (suc n) < shallower depth high (suc n)) (sym e)
          (λ k. omega (
            arith,
            one_new (depth n) high k,
            shallower-more depth (depth n) high n (omega (arith, k)),
          )) h
      | inr differ ↦ omega (
        arith,
        one_more (depth n) (depth scope) high (omega (arith, h)),
        shallower-falls depth scope high n (omega (arith, less, differ)) h,
      )
    ]

one_most : (b : Bool) → cond b 1 0 ≤ 1
one_most true = omega arith
one_most false = omega arith

shallower-small : (depth : ℕ → ℕ) (high n : ℕ) → shallower depth high n ≤ n
shallower-small depth high zero = omega arith
shallower-small depth high (suc n) =
    omega (arith, one_most (nat_lt (depth n) high), shallower-small depth high n)

-- One more than at the next scope outward, where there is one.
abbrev pub from_next : (ℕ → ℕ) → Option LoopInst → ℕ
from_next count None = 0
from_next count (Some inst) = 1 + count inst.outer

-- How many scopes lie around a scope, itself among them, counted as far as n; the run isn't counted.
abbrev pub around : List LoopInst → ℕ → ℕ → ℕ
around loops zero scope = 0
around loops (suc n) scope = from_next (around loops n) (item_at scope loops)

-- Where no more than n scopes lie around one, counting further finds no more.
around-settled : (loops : List LoopInst) (chains : ChainsEnd loops) (n scope : ℕ)
    (found : Option LoopInst) → item_at scope loops ≡ found → chains.depth scope ≤ n →
    from_next (around loops n) found ≤ around loops n scope
around-settled loops chains n scope None e small = omega arith
around-settled loops chains zero scope (Some inst) e small =
    absurd (omega (arith, chains.falls scope inst e, small))
around-settled loops chains (suc n) scope (Some inst) e small =
    subst (λ (found : Option LoopInst).
    1 + around loops (suc n) inst.outer ≤ from_next (around loops n) found) (sym e)
    (omega (
      arith,
      around-settled loops chains n inst.outer (item_at inst.outer loops) refl
          (omega (arith, chains.falls scope inst e, small)),
    ))

-- Fewer lie around the next scope outward.
around-falls : (loops : List LoopInst) (chains : ChainsEnd loops) (n scope : ℕ)
    (inst : LoopInst) → item_at scope loops ≡ Some inst → chains.depth scope ≤ n →
    around loops n inst.outer < around loops n scope
around-falls loops chains zero scope inst e small =
    absurd (omega (arith, chains.falls scope inst e, small))
around-falls loops chains (suc n) scope inst e small =
    subst (λ (found : Option LoopInst).
    around loops (suc n) inst.outer < from_next (around loops n) found) (sym e)
    (omega (
      arith,
      around-settled loops chains n inst.outer (item_at inst.outer loops) refl
          (omega (arith, chains.falls scope inst e, small)),
    ))

-- A chain is no longer than the list of instances: the scopes that are less deep than a scope are
-- a depth for it as well.
abbrev short : (loops : List LoopInst) → All (λ inst. IsNumberOrZero loops inst.outer) loops →
    ChainsEnd loops → ChainsEnd loops
short loops numbers chains =
    record {
      depth = λ scope. shallower chains.depth (chains.depth scope) (length loops + 1);
      falls = λ scope inst e. shallower-falls chains.depth inst.outer (chains.depth scope)
          (length loops + 1)
          (omega (
            arith,
            item_at-all (λ i. IsNumberOrZero loops i.outer) loops scope inst numbers e,
          ))
          (chains.falls scope inst e);
    }

-- There is a depth that no scope of the net has above the number of its loop instances.
pub record IsShort (loops : List LoopInst) : Type 0 where
  pub depth : ℕ → ℕ
  pub falls : (scope : ℕ) (inst : LoopInst) → item_at scope loops ≡ Some inst →
      depth inst.outer < depth scope
  pub small : (scope : ℕ) → IsNumberOrZero loops scope → depth scope ≤ length loops

pub chains-short : (loops : List LoopInst) →
    All (λ inst. IsNumberOrZero loops inst.outer) loops → ChainsEnd loops → IsShort loops
chains-short loops numbers chains =
    record {
      depth = (short loops numbers chains).depth;
      falls = (short loops numbers chains).falls;
      small = λ scope within. omega (
        arith,
        shallower-falls chains.depth scope (chains.depth scope + 1) (length loops + 1)
            (omega (arith, within)) (omega arith),
        shallower-small chains.depth (chains.depth scope + 1) (length loops + 1),
      );
    }

-- The number of scopes around falls on the way outward.
pub around-outward : (loops : List LoopInst) →
    All (λ inst. IsNumberOrZero loops inst.outer) loops → ChainsEnd loops → (scope : ℕ)
    (inst : LoopInst) → item_at scope loops ≡ Some inst →
    around loops (length loops + 1) inst.outer < around loops (length loops + 1) scope
around-outward loops numbers chains scope inst e =
    around-falls loops (short loops numbers chains) (length loops + 1) scope inst e
    (shallower-small chains.depth (chains.depth scope) (length loops + 1))

-- A scope other than the outer one is within it where its next scope outward is.
within_at : (loops : List LoopInst) (outer scope : ℕ) (found : Option LoopInst) →
    item_at scope loops ≡ found →
    ((inst : LoopInst) → found ≡ Some inst →
    IsWithin loops outer inst.outer ⊎ (IsWithin loops outer inst.outer → ⊥)) →
    (scope ≡ outer → ⊥) → IsWithin loops outer scope ⊎ (IsWithin loops outer scope → ⊥)
within_at loops outer scope None e next differ =
    inr (λ w. elim (within-cases loops outer scope w) as (λ _. ⊥) [
      | inl same ↦ differ same
      | inr below ↦ none-some below.inst (sym e ∙ below.there)
    ])
within_at loops outer scope (Some inst) e next differ =
    elim (next inst refl)
    as (λ _. IsWithin loops outer scope ⊎ (IsWithin loops outer scope → ⊥)) [
      | inl w ↦ inl (out scope inst e w)
      | inr apart ↦ inr (λ w. apart (within-next loops outer scope inst e differ w))
    ]

within_by : (loops : List LoopInst) (chains : ChainsEnd loops) (outer n scope : ℕ) →
    chains.depth scope < n → IsWithin loops outer scope ⊎ (IsWithin loops outer scope → ⊥)
within_by loops chains outer zero scope small = absurd (omega (arith, small))
within_by loops chains outer (suc n) scope small =
    elim (cases_eq scope outer)
    as (λ _. IsWithin loops outer scope ⊎ (IsWithin loops outer scope → ⊥)) [
      | inl same ↦ inl (within-same loops outer scope same)
      | inr differ ↦ within_at loops outer scope (item_at scope loops) refl
          (λ inst e. within_by loops chains outer n inst.outer
          (omega (arith, chains.falls scope inst e, small)))
          differ
    ]

-- A scope is within another one, or it isn't.
pub within-decided : (loops : List LoopInst) → ChainsEnd loops → (outer scope : ℕ) →
    IsWithin loops outer scope ⊎ (IsWithin loops outer scope → ⊥)
within-decided loops chains outer scope =
    within_by loops chains outer (chains.depth scope + 1) scope (omega arith)

zero_by : (loops : List LoopInst) → All (λ inst. IsNumberOrZero loops inst.outer) loops →
    (chains : ChainsEnd loops) (n scope : ℕ) → chains.depth scope < n →
    IsNumberOrZero loops scope → IsWithin loops 0 scope
zero_by loops numbers chains zero scope small high = absurd (omega (arith, small))
zero_by loops numbers chains (suc n) zero small high = here
zero_by loops numbers chains (suc n) (suc below) small high =
    let inst = get_or loops (suc below - 1) (record { header = 0; bound = 0; outer = 0 }) in
    let there : item_at (suc below) loops ≡ Some inst =
    item_at-there loops (suc below) (record { header = 0; bound = 0; outer = 0 })
    (record { from_one = omega arith; within = high }) in
    out (suc below) inst there
    (zero_by loops numbers chains n inst.outer
    (omega (arith, chains.falls (suc below) inst there, small))
    (item_at-all (λ i. IsNumberOrZero loops i.outer) loops (suc below) inst numbers there))

-- Each scope of the net is within the run.
pub within-zero : (loops : List LoopInst) →
    All (λ inst. IsNumberOrZero loops inst.outer) loops → ChainsEnd loops → (scope : ℕ) →
    IsNumberOrZero loops scope → IsWithin loops 0 scope
within-zero loops numbers chains scope high =
    zero_by loops numbers chains (chains.depth scope + 1) scope (omega arith) high

-- A chain that began with a scope has come to another one: what is left of it tells the same.
pub record GoesOn (loops : List LoopInst) (outer inner scope : ℕ) : Type 0 where
  pub number : IsNumberOrZero loops scope
  pub onward : IsWithin loops outer scope → IsWithin loops outer inner
  pub back : IsWithin loops outer inner → IsWithin loops outer scope

pub goes-first : (loops : List LoopInst) (outer inner : ℕ) → IsNumberOrZero loops inner →
    GoesOn loops outer inner inner
goes-first loops outer inner high = record { number = high; onward = λ w. w; back = λ w. w }

pub goes-next : (loops : List LoopInst) (outer inner scope : ℕ) (inst : LoopInst) →
    All (λ i. IsNumberOrZero loops i.outer) loops → item_at scope loops ≡ Some inst →
    (scope ≡ outer → ⊥) → GoesOn loops outer inner scope → GoesOn loops outer inner inst.outer
goes-next loops outer inner scope inst numbers there differ goes =
    record {
      number = item_at-all (λ i. IsNumberOrZero loops i.outer) loops scope inst numbers there;
      onward = λ w. goes.onward (out scope inst there w);
      back = λ w. within-next loops outer scope inst there differ (goes.back w);
    }
