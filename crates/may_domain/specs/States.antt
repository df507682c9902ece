-- Lower ages of one cache set.
use Rattle.std.specs.Prelude.{◌≡◌, ℕ, ◌^◌, ◌<◌, ◌≤◌, List, [], ◌∷◌, map, Option, None, Some}
use Rattle.domain_laws.specs.Maps.{IsMap, value_at}

-- The ways of the set, the bound that all blocks without a name share, and by rising block the blocks that are named,
-- each with its bound.
pub record Lowers : Type 0 where
  pub ways : ℕ
  pub shared : ℕ
  pub ages : List (ℕ × ℕ)

abbrev pub or_shared : (shared : ℕ) → Option ℕ → ℕ
or_shared shared None = shared
or_shared shared (Some age) = age

abbrev pub age_of : Lowers → (block : ℕ) → ℕ
age_of state block = or_shared state.shared (value_at block state.ages)

-- The named blocks.
abbrev pub names_in : List (ℕ × ℕ) → List ℕ
names_in ages = map (λ (entry : ℕ × ℕ). entry.0) ages

-- A bound of at most the ways.
pub record IsLow (ways block age : ℕ) : Type 0 where
  pub low : block < 2 ^ 32
  pub most : age ≤ ways

-- A state of a set with these ways.
pub record IsLower (ways : ℕ) (state : Lowers) : Type 0 where
  pub same : state.ways ≡ ways
  pub some : 0 < ways
  pub low : ways < 2 ^ 32
  pub shared : state.shared ≤ ways
  pub each : IsMap (IsLow ways) state.ages

-- It names these blocks.
pub record IsNamed (ways : ℕ) (blocks : List ℕ) (state : Lowers) : Type 0 where
  pub lower : IsLower ways state
  pub names : names_in state.ages ≡ blocks
