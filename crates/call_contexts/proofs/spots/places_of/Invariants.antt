-- The places of the contexts and of the units so far, with their scopes.
use Rattle.std.proofs.Common.{◌≡◌, ◌+◌, ℕ, length, map, take, slice_get, Some}
use Rattle.flow_net.specs.declared.net.Place.{Place}
use Rattle.call_contexts.proofs.Laying.{ArePlaces}
use Rattle.call_contexts.proofs.spots.places_of.Given as goal

abbrev pub invariant-loop-context : goal.invariant-loop-context
invariant-loop-context l =
    ((base : ℕ) × (slice_get l.layout.bases.items l.context ≡ Some base) × ArePlaces l.graphs.graphs l.layout base l.places.items)
    × (map (λ (place : Place). place.scope) l.places.items ≡ take (length l.places.items) l.scopes)

abbrev pub invariant-loop-unit : goal.invariant-loop-unit
invariant-loop-unit l =
    ((base : ℕ) × (slice_get l.layout.bases.items l.context ≡ Some base) × ArePlaces l.graphs.graphs l.layout (base + l.unit-index) l.places.items)
    × (map (λ (place : Place). place.scope) l.places.items ≡ take (length l.places.items) l.scopes)
