-- The caches that the elements of the array `cache` give.
use Rattle.std.specs.Prelude.{ℕ, zero, suc, ◌&&◌, ◌||◌, nat_le, Bool, false, List, length, filter, codes, Option, Some, None, option_map, option_and_then}
use Rattle.std.specs.Option.{option_map_or}
use Rattle.toml.specs.Data.{Data, Members, as_table}
use Rattle.cache_config.specs.Chains.{most_chain}
use Rattle.cache_config.specs.Keys.{cache_row}
use Rattle.cache_config.specs.Values.{number_at}
use Rattle.lru_concrete.specs.Chains.{serves}
use Rattle.lru_concrete.specs.declared.level.Level.{Level}
use Rattle.lru_concrete.specs.declared.level.Serves.{Serves}
use Rattle.lru_concrete.specs.declared.level.Serves.TheVariants.{Fetch, Load, Both}
use Rattle.lru_concrete.specs.declared.level.Side.{Side}
use Rattle.lru_concrete.specs.declared.level.Side.TheVariants as side

-- What the word of a place among the words of `serves` says.
abbrev pub serves_by : (place : ℕ) → Serves
serves_by zero = Fetch
serves_by (suc zero) = Load
serves_by (suc (suc place)) = Both

-- What an element serves, where it is a table with one of the words, whatever else it has.
abbrev pub serves_in : Members → Option Serves
serves_in ms = option_map serves_by (number_at (cache_row (codes "serves")) ms)

abbrev pub serves_of : Data → Option Serves
serves_of d = option_and_then serves_in (as_table d)

-- The element serves the side.
abbrev pub is_of : Side → Data → Bool
is_of side d = option_map_or (λ what. serves what side) (serves_of d) false

-- The element serves the side, and so do three earlier ones or more.
abbrev pub is_past : Side → List Data → Data → Bool
is_past side earlier d = is_of side d && nat_le most_chain (length (filter (is_of side) earlier))

-- A chain gets too long by the element.
abbrev pub is_too_deep : List Data → Data → Bool
is_too_deep earlier d = is_past side.Fetch earlier d || is_past side.Load earlier d

-- The numbers of a cache.
pub record Cache : Type 0 where
  pub serves : Serves
  pub sets : ℕ
  pub ways : ℕ
  pub line : ℕ
  pub latency : ℕ

abbrev pub cache : Level → Cache
cache level = record {
  serves = level.serves;
  sets = level.shape.sets;
  ways = level.shape.ways;
  line = level.shape.line;
  latency = level.latency;
}

-- The cache of these numbers, where all are there.
abbrev pub cache_by : Option Serves → (sets ways line latency : Option ℕ) → Option Cache
cache_by (Some what) (Some s) (Some w) (Some l) (Some n) =
    Some (record { serves = what; sets = s; ways = w; line = l; latency = n })
cache_by what sets ways line latency = None

-- The cache that a table of `cache` gives, where all its numbers are within their own limits.
abbrev pub cache_in : Members → Option Cache
cache_in ms =
    cache_by (serves_in ms) (number_at (cache_row (codes "sets")) ms) (number_at (cache_row (codes "ways")) ms)
    (number_at (cache_row (codes "line")) ms) (number_at (cache_row (codes "latency")) ms)

-- The same of an element: none where it isn't a table.
abbrev pub cache_of : Data → Option Cache
cache_of d = option_and_then cache_in (as_table d)
