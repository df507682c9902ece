-- The order of lower ages: a state is under another one where no bound of it is less.
use Rattle.std.specs.Prelude.{ℕ, ◌+◌, Bool, ◌&&◌, min, nat_le, List, [], ◌∷◌}
use Rattle.domain_laws.specs.Maps.{always, map_joined, map_leq, map_rank}
use Rattle.domain_laws.specs.Shapes.{Shape}
use Rattle.domain_laws.specs.Shapes.Shape.{plain, pair, no_keys, key}
use Rattle.may_domain.specs.States.{Lowers, IsNamed}

-- A bound is at least another one.
abbrev pub at_least : ℕ → ℕ → Bool
at_least x y = nat_le y x

abbrev pub leq : Lowers → Lowers → Bool
leq x y = at_least x.shared y.shared && map_leq at_least x.ages y.ages

-- The lesser of both bounds, for each block.
abbrev pub joined : Lowers → Lowers → Lowers
joined x y = record {
  ways = x.ways;
  shared = min x.shared y.shared;
  ages = map_joined (always min) x.ages y.ages;
}

-- The sum of the bounds.
abbrev pub rank : Lowers → ℕ
rank x = x.shared + map_rank (λ (age : ℕ). age) x.ages

-- The shape of a state is its number of ways and the blocks that it names.
abbrev pub lower_has : Lowers → Shape → Type 0
lower_has state (plain []) = ⊥
lower_has state (plain (ways ∷ names)) = IsNamed ways names state
lower_has state (pair left right) = ⊥
lower_has state no_keys = ⊥
lower_has state (key number value rest) = ⊥
