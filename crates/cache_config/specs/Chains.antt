-- The chains of a profile's caches: which accesses go through which cache.
use Rattle.std.specs.Prelude.{ℕ, ◌≤◌, Bool, false, List, length, slice_get, Option, Some, None}
use Rattle.lru_concrete.specs.Chains.{chain, serves}
use Rattle.lru_concrete.specs.declared.level.Level.{Level}
use Rattle.lru_concrete.specs.declared.level.Side.{Side}
use Rattle.lru_concrete.specs.declared.level.Side.TheVariants as side
use Rattle.mips_decode.specs.declared.step.AccessKind.{AccessKind}
use Rattle.mips_decode.specs.declared.step.AccessKind.TheVariants as access

-- The side of the caches that an access goes through: fetches read instructions, also that of a delay slot, and loads
-- read data. A store goes through no cache.
abbrev pub side_of : AccessKind → Option Side
side_of access.Fetch = Some side.Fetch
side_of access.Slot = Some side.Fetch
side_of access.Load = Some side.Load
side_of access.Store = None

-- Whether a cache serves a side, where both are there.
abbrev pub serves_some : Option Level → Option Side → Bool
serves_some None served = false
serves_some (Some level) None = false
serves_some (Some level) (Some served) = serves level.serves served

-- Whether accesses of a kind go through the cache of this number, counted from 0. There may be no such cache.
abbrev pub in_chain : List Level → (cache : ℕ) → AccessKind → Bool
in_chain levels cache kind = serves_some (slice_get levels cache) (side_of kind)

-- The most caches that an access may go through.
abbrev pub most_chain : ℕ
most_chain = 3

-- No access goes through more caches than that.
abbrev pub AreShort : List Level → Type 0
AreShort levels = (served : Side) → length (chain served levels) ≤ most_chain
