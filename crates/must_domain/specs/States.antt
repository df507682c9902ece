-- Upper ages of one cache set.
use Rattle.std.specs.Prelude.{◌≡◌, ℕ, ◌^◌, ◌<◌, List, [], ◌∷◌, Option, None, Some}
use Rattle.domain_laws.specs.Maps.{IsMap, value_at}

-- The ways of the set, and by rising block the blocks with a bound of their age.
pub record Uppers : Type 0 where
  pub ways : ℕ
  pub ages : List (ℕ × ℕ)

-- A block without a bound may be absent: then its age is the ways.
abbrev pub or_ways : (ways : ℕ) → Option ℕ → ℕ
or_ways ways None = ways
or_ways ways (Some age) = age

abbrev pub age_of : Uppers → (block : ℕ) → ℕ
age_of state block = or_ways state.ways (value_at block state.ages)

-- A bound below the ways.
pub record IsYoung (ways block age : ℕ) : Type 0 where
  pub low : block < 2 ^ 32
  pub young : age < ways

-- A state of a set with these ways.
pub record IsUpper (ways : ℕ) (state : Uppers) : Type 0 where
  pub same : state.ways ≡ ways
  pub some : 0 < ways
  pub low : ways < 2 ^ 32
  pub each : IsMap (IsYoung ways) state.ages
