-- The elements of an array, as toml's values and as data.
use Rattle.std.proofs.Common.{◌≡◌, List, [], ◌∷◌, map, refl, ap}
use Rattle.toml.specs.declared.value.Value.{Value}
use Rattle.toml.specs.View.{view, items_view}
use Rattle.cache_config.specs.Values.{elements}

pub elements-items_view : (values : List Value) → elements (items_view values) ≡ map view values
elements-items_view [] = refl
elements-items_view (v ∷ vs) = ap (λ ds. view v ∷ ds) (elements-items_view vs)

-- The rule by which the check reads the elements.
pub ruleset view_of_items = elements-items_view
