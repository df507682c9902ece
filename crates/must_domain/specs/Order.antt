-- The order of upper ages: a state is under another one where no bound of it is greater.
use Rattle.std.specs.Prelude.{ℕ, ◌-◌, Bool, max, nat_le, List, [], ◌∷◌}
use Rattle.domain_laws.specs.Maps.{always, map_joined, map_leq, map_rank}
use Rattle.domain_laws.specs.Shapes.{Shape}
use Rattle.domain_laws.specs.Shapes.Shape.{plain, pair, no_keys, key}
use Rattle.must_domain.specs.States.{Uppers, IsUpper}

abbrev pub leq : Uppers → Uppers → Bool
leq x y = map_leq nat_le x.ages y.ages

-- The greater of both bounds, for the blocks that have one in both.
abbrev pub joined : Uppers → Uppers → Uppers
joined x y = record { ways = x.ways; ages = map_joined (always max) x.ages y.ages }

-- How far the bounds are from the ways.
abbrev pub rank : Uppers → ℕ
rank x = map_rank (λ (age : ℕ). x.ways - age) x.ages

-- The shape of a state is its number of ways.
abbrev pub upper_has : Uppers → Shape → Type 0
upper_has state (plain []) = ⊥
upper_has state (plain (ways ∷ [])) = IsUpper ways state
upper_has state (plain (ways ∷ number ∷ numbers)) = ⊥
upper_has state (pair left right) = ⊥
upper_has state no_keys = ⊥
upper_has state (key number value rest) = ⊥
