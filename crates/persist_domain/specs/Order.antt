-- The order of conflicts: a state is under another one where each conflict of it is one there.
use Rattle.std.specs.Prelude.{ℕ, Bool, List, [], ◌∷◌}
use Rattle.domain_laws.specs.Sets.{capped_joined, capped_leq, capped_rank}
use Rattle.domain_laws.specs.Shapes.{Shape}
use Rattle.domain_laws.specs.Shapes.Shape.{plain, pair, no_keys, key}
use Rattle.persist_domain.specs.States.{Conflicting, IsConflicting}

abbrev pub leq : Conflicting → Conflicting → Bool
leq x y = capped_leq x.others y.others

-- The conflicts of both.
abbrev pub joined : Conflicting → Conflicting → Conflicting
joined x y = record { block = x.block; others = capped_joined x.others y.others }

-- How many conflicts may come until all blocks are.
abbrev pub rank : Conflicting → ℕ
rank x = capped_rank x.others

-- The shape of a state is its number of ways and its block.
abbrev pub conflicts_have : Conflicting → Shape → Type 0
conflicts_have state (plain []) = ⊥
conflicts_have state (plain (ways ∷ [])) = ⊥
conflicts_have state (plain (ways ∷ own ∷ [])) = IsConflicting ways own state
conflicts_have state (plain (ways ∷ own ∷ number ∷ numbers)) = ⊥
conflicts_have state (pair left right) = ⊥
conflicts_have state no_keys = ⊥
conflicts_have state (key number value rest) = ⊥
