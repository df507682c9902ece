-- The places of a net: the pairs of a context and a unit of its function.
use Rattle.std.specs.Prelude.{◌≡◌, ℕ, ◌<◌, ◌⊎◌, Some}
use Rattle.flow_net.specs.Numbers.{item_at}
use Rattle.flow_net.specs.declared.net.Net.{Net}
use Rattle.flow_net.specs.declared.net.NetArc.{NetArc}
use Rattle.flow_net.specs.declared.net.Place.{Place}

-- The place of a number stands for the unit at an address in a context.
pub record IsPlaceOf (net : Net) (number context address : ℕ) : Type 0 where
  pub place : Place
  pub there : item_at number net.places ≡ Some place
  pub within : place.context ≡ context
  pub same : place.address ≡ address

-- The order of places: by their contexts, then by their addresses.
abbrev pub IsPlaceBefore : Place → Place → Type 0
IsPlaceBefore place other =
    (place.context < other.context) ⊎ ((place.context ≡ other.context) × (place.address < other.address))

-- The order of arcs: by their sources, then by their targets, with 0 as the last target.
abbrev pub IsTargetBefore : ℕ → ℕ → Type 0
IsTargetBefore to other = (0 < to) × ((other ≡ 0) ⊎ (to < other))

abbrev pub IsArcBefore : NetArc → NetArc → Type 0
IsArcBefore arc other =
    (arc.from < other.from) ⊎ ((arc.from ≡ other.from) × IsTargetBefore arc.to other.to)
