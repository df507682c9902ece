-- The depths of scopes and of the places in them.
use Rattle.std.specs.Prelude.{◌≡◌, ℕ, zero, suc, ◌+◌, ◌-◌, ◌^◌, ◌≤◌, min, List, [], ◌∷◌, ◌++◌, length, Some, slice_get, refl}
use Rattle.std.proofs.Common.{◌∙◌, ◌⊎◌, arith, inl, inr, subst, sym}
use Rattle.std.proofs.lemmas.List.{length_push}
use Rattle.std.proofs.lemmas.Option.{none-some, same_Some}
use Rattle.flow_net.specs.Numbers.{item_at}
use Rattle.flow_net.specs.declared.net.LoopInst.{LoopInst}
use Rattle.flow_net.specs.declared.net.Place.{Place}
use Rattle.net_tables.specs.Tables.{HasDepth, IsCapDepth}

-- The chain from a scope has come to another one, past so many loop instances.
pub record IsCounting (loops : List LoopInst) (scope around depth : ℕ) : Type 0 where
  pub number : around ≤ length loops
  pub steps : ℕ
  pub counted : depth ≡ min steps (2 ^ 32 - 1)
  pub onward : (more : ℕ) → HasDepth loops around more → HasDepth loops scope (steps + more)

pub counting_begins : (loops : List LoopInst) (scope : ℕ) → scope ≤ length loops → IsCounting loops scope scope 0
counting_begins loops scope inside = record {
  number = inside;
  steps = 0;
  counted = omega arith;
  onward = λ more has. subst (HasDepth loops scope) (omega arith) has;
}

pub counting_goes : (loops : List LoopInst) (scope around depth next : ℕ) (inst : LoopInst) →
    IsCounting loops scope around depth → item_at around loops ≡ Some inst → inst.outer ≤ length loops →
    next ≡ min (depth + 1) (2 ^ 32 - 1) → IsCounting loops scope inst.outer next
counting_goes loops scope around depth next inst counting there inside is = record {
  number = inside;
  steps = counting.steps + 1;
  counted = omega (arith, is, counting.counted);
  onward = λ more has. subst (HasDepth loops scope) (omega arith)
      (counting.onward (more + 1) (HasDepth.within around more inst there has));
}

pub counting_ends : (loops : List LoopInst) (scope around depth : ℕ) → around ≡ 0 → IsCounting loops scope around depth →
    IsCapDepth loops scope depth
counting_ends loops scope around depth none counting = record {
  depth = counting.steps;
  counted = subst (HasDepth loops scope) (omega arith)
      (counting.onward 0 (subst (λ (n : ℕ). HasDepth loops n 0) (sym none) HasDepth.run));
  capped = counting.counted;
}

-- The depths of the places so far.
pub record AreDepthsSoFar (loops : List LoopInst) (places : List Place) (index : ℕ) (depths : List ℕ) : Type 0 where
  pub size : length depths ≡ index
  pub each : (position : ℕ) (place : Place) (depth : ℕ) → slice_get places position ≡ Some place →
      slice_get depths position ≡ Some depth → IsCapDepth loops place.scope depth

pushed : (xs : List ℕ) (y k z : ℕ) → slice_get (xs ++ y ∷ []) k ≡ Some z →
    (slice_get xs k ≡ Some z) ⊎ ((k ≡ length xs) × (y ≡ z))
pushed [] y zero z h = inr (refl, same_Some y z h)
pushed [] y (suc k) z h = absurd (none-some z h)
pushed (x ∷ xs) y zero z h = inl h
pushed (x ∷ xs) y (suc k) z h = elim (pushed xs y k z h) as (λ _. (slice_get xs k ≡ Some z) ⊎ ((suc k ≡ length (x ∷ xs)) × (y ≡ z))) [
  | inl old ↦ inl old
  | inr (e, f) ↦ inr (omega (arith, e), f)
]

pub depth_more : (loops : List LoopInst) (places : List Place) (index depth : ℕ) (depths : List ℕ) (here : Place) →
    slice_get places index ≡ Some here → IsCapDepth loops here.scope depth →
    AreDepthsSoFar loops places index depths → AreDepthsSoFar loops places (index + 1) (depths ++ depth ∷ [])
depth_more loops places index depth depths here there has are = record {
  size = omega (arith, length_push depths depth, are.size);
  each = λ position place found at is. elim (pushed depths depth position found is) as (λ _. IsCapDepth loops place.scope found) [
    | inl old ↦ are.each position place found at old
    | inr (e, f) ↦ subst (IsCapDepth loops place.scope) f
        (subst (λ (p : Place). IsCapDepth loops p.scope depth)
        (same_Some here place (sym there ∙
        subst (λ (k : ℕ). slice_get places k ≡ Some place) (e ∙ are.size) at)) has)
  ];
}
