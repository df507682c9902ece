-- Which scopes hold a place: they are a line, the run is one of them, and it can be told of each.
use Rattle.std.proofs.Common.{◌≡◌, ℕ, ◌≤◌, length, Option, Some, None, refl, sym, ◌∙◌, subst, inl, inr, ◌⊎◌}
use Rattle.std.proofs.lemmas.Option.{none-some}
use Rattle.flow_net.specs.Numbers.{item_at}
use Rattle.flow_net.specs.Scopes.{IsWithin, Holds, ChainsEnd}
use Rattle.flow_net.specs.Nested.{IsNested}
use Rattle.flow_net.specs.declared.net.Net.{Net}
use Rattle.flow_net.specs.declared.net.Place.{Place}
use Rattle.flow_net.proofs.Numbers.{item_at-same, item_at-all}
use Rattle.flow_net.proofs.Within.{within-through, within-line}
use Rattle.flow_net.proofs.Chains.{within-decided, within-zero}

-- No scope holds what is outside the run.
pub holds-zero : (net : Net) (scope : ℕ) → Holds net scope 0 → ⊥
holds-zero net scope held = none-some held.place held.there

-- The place's innermost scope is within each scope that holds it.
pub holds-place : (net : Net) (scope number : ℕ) (place : Place) →
    item_at number net.places ≡ Some place → Holds net scope number →
    IsWithin net.loops scope place.scope
holds-place net scope number place there held =
    subst (λ (p : Place). IsWithin net.loops scope p.scope)
    (item_at-same net.places number held.place place held.there there) held.within

-- A scope holds what the scopes within it hold.
pub holds-through : (net : Net) (outer scope number : ℕ) → IsWithin net.loops outer scope →
    Holds net scope number → Holds net outer number
holds-through net outer scope number w held =
    record {
      place = held.place;
      there = held.there;
      within = within-through net.loops outer scope held.place.scope w held.within;
    }

-- Of two scopes that hold a place, one is within the other.
pub holds-line : (net : Net) (one other number : ℕ) → Holds net one number →
    Holds net other number → IsWithin net.loops one other ⊎ IsWithin net.loops other one
holds-line net one other number held also =
    within-line net.loops one other held.place.scope held.within
    (holds-place net other number held.place held.there also)

holds_at : (net : Net) (scope number : ℕ) → ChainsEnd net.loops → (found : Option Place) →
    item_at number net.places ≡ found → Holds net scope number ⊎ (Holds net scope number → ⊥)
holds_at net scope number chains None e = inr (λ held. none-some held.place (sym e ∙ held.there))
holds_at net scope number chains (Some place) e =
    elim (within-decided net.loops chains scope place.scope)
    as (λ _. Holds net scope number ⊎ (Holds net scope number → ⊥)) [
      | inl w ↦ inl (record { place = place; there = e; within = w })
      | inr apart ↦ inr (λ held. apart (holds-place net scope number place e held))
    ]

-- A scope holds a place, or it doesn't.
pub holds-decided : (net : Net) (scope number : ℕ) → ChainsEnd net.loops →
    Holds net scope number ⊎ (Holds net scope number → ⊥)
holds-decided net scope number chains =
    holds_at net scope number chains (item_at number net.places) refl

-- The run holds each place.
pub holds-run : (net : Net) (number : ℕ) (place : Place) → IsNested net →
    item_at number net.places ≡ Some place → Holds net 0 number
holds-run net number place nested there =
    record {
      place = place;
      there = there;
      within = within-zero net.loops nested.scopes.loops nested.scopes.chains place.scope
          (item_at-all (λ p. p.scope ≤ length net.loops) net.places number place
          nested.scopes.places there);
    }
