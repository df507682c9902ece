-- How scopes lie in one another: the scopes around a place are a line, from the innermost outward.
use Rattle.std.proofs.Common.{◌≡◌, ℕ, List, Some, refl, subst, inl, inr, ◌⊎◌}
use Rattle.flow_net.specs.Numbers.{item_at}
use Rattle.flow_net.specs.Scopes.{IsInside, IsWithin}
use Rattle.flow_net.specs.Scopes.IsWithin.{here, out}
use Rattle.flow_net.specs.declared.net.LoopInst.{LoopInst}
use Rattle.flow_net.proofs.Numbers.{item_at-same}

-- What is within a scope is that scope or lies inside it.
pub within-cases : (loops : List LoopInst) (outer scope : ℕ) → IsWithin loops outer scope →
    (scope ≡ outer) ⊎ IsInside loops outer scope
within-cases loops outer _ here = inl refl
within-cases loops outer _ (out scope inst there within) =
    inr (record { inst = inst; there = there; within = within })

pub within-same : (loops : List LoopInst) (outer scope : ℕ) → scope ≡ outer →
    IsWithin loops outer scope
within-same loops outer scope same =
    subst (λ (at : ℕ). IsWithin loops at scope) same here

-- Within a scope that is within a third one.
pub within-through : (loops : List LoopInst) (outer middle scope : ℕ) →
    IsWithin loops outer middle → IsWithin loops middle scope → IsWithin loops outer scope
within-through loops outer middle _ w here = w
within-through loops outer middle _ w (out scope inst there within) =
    out scope inst there (within-through loops outer middle inst.outer w within)

-- Of a scope that isn't the outer one only its next scope outward counts.
pub within-next : (loops : List LoopInst) (outer scope : ℕ) (inst : LoopInst) →
    item_at scope loops ≡ Some inst → (scope ≡ outer → ⊥) → IsWithin loops outer scope →
    IsWithin loops outer inst.outer
within-next loops outer scope inst there differ w =
    elim (within-cases loops outer scope w) as (λ _. IsWithin loops outer inst.outer) [
      | inl e ↦ absurd (differ e)
      | inr below ↦ subst (λ (i : LoopInst). IsWithin loops outer i.outer)
          (item_at-same loops scope below.inst inst below.there there) below.within
    ]

-- Of two scopes around one, one is within the other.
pub within-line : (loops : List LoopInst) (one other scope : ℕ) → IsWithin loops one scope →
    IsWithin loops other scope → IsWithin loops one other ⊎ IsWithin loops other one
within-line loops one other _ here v = inr v
within-line loops one other _ (out scope inst there w) v =
    elim (within-cases loops other scope v)
    as (λ _. IsWithin loops one other ⊎ IsWithin loops other one) [
      | inl e ↦ inl (subst (IsWithin loops one) e (out scope inst there w))
      | inr below ↦ within-line loops one other inst.outer w
          (subst (λ (i : LoopInst). IsWithin loops other i.outer)
          (item_at-same loops scope below.inst inst below.there there) below.within)
    ]
