-- The caches of a machine, and what an access does to them (Hardy and Puaut 2008: caches that don't include one another).
use Rattle.std.specs.Prelude.{◌≡◌, ℕ, zero, suc, ◌+◌, Bool, true, false, List, [], ◌∷◌, filter, map, replicate, sum_by, take, if◌then◌else◌}
use Rattle.std.specs.List.{AllZip}
use Rattle.lru_concrete.specs.declared.level.Level.{Level}
use Rattle.lru_concrete.specs.declared.level.Serves.{Serves}
use Rattle.lru_concrete.specs.declared.level.Serves.TheVariants as serving
use Rattle.lru_concrete.specs.declared.level.Side.{Side}
use Rattle.lru_concrete.specs.declared.level.Side.TheVariants as side
use Rattle.lru_concrete.specs.declared.visit.Visit.{Visit}
use Rattle.lru_concrete.specs.Contents.{Content, block_in, holds, touching}

-- Whether a cache serves the fetches, or the loads.
abbrev pub serves : Serves → Side → Bool
serves serving.Both side = true
serves serving.Fetch side.Fetch = true
serves serving.Fetch side.Load = false
serves serving.Load side.Fetch = false
serves serving.Load side.Load = true

-- A cache of a machine with what it holds.
pub record Held : Type 0 where
  pub level : Level
  pub blocks : List (List ℕ)

abbrev pub levels_of : List Held → List Level
levels_of caches = map (λ (cache : Held). cache.level) caches

-- A cache that holds no blocks.
abbrev pub empty_of : Level → Held
empty_of level = record { level = level; blocks = replicate level.shape.sets [] }

-- Caches of these levels, with these contents.
abbrev pub held_of : List Level → List Content → List Held
held_of [] contents = []
held_of (level ∷ levels) [] = []
held_of (level ∷ levels) (content ∷ contents) =
    record { level = level; blocks = content.blocks } ∷ held_of levels contents

-- Each content is of the size that its level has.
abbrev pub AreOfLevels : List Level → List Content → Type 0
AreOfLevels levels contents =
    AllZip (λ (level : Level) (content : Content). content.shape ≡ level.shape) levels contents

-- Whether a cache holds the block of an address, and the cache once that block is touched.
abbrev pub finds_in : Held → (address : ℕ) → Bool
finds_in cache address = holds cache.level.shape cache.blocks (block_in cache.level.shape address)

abbrev pub touch_in : Held → (address : ℕ) → Held
touch_in cache address =
    record cache { blocks = touching cache.level.shape cache.blocks (block_in cache.level.shape address) }

-- How many caches of its chain an access visited, and whether the last one held its block.
pub record Visited : Type 0 where
  pub caches : ℕ
  pub hit : Bool

-- What an access visited, and the caches after it.
pub record Went : Type 0 where
  pub visit : Visited
  pub after : List Held

-- What an access does at a cache, by whether the cache serves its side and holds its block; behind that the rest of the
-- caches, and what the access does to them where it goes on.
abbrev pub onward : (served found : Bool) → (cache changed : Held) → List Held → Went → Went
onward false found cache changed more rest = record rest { after = cache ∷ rest.after }
onward true true cache changed more rest =
    record { visit = record { caches = 1; hit = true }; after = changed ∷ more }
onward true false cache changed more rest =
    record { visit = record { caches = suc rest.visit.caches; hit = rest.visit.hit }; after = changed ∷ rest.after }

-- An access visits the caches that serve its side, in their order, up to the first one that holds its block, else all of
-- them. Each visited cache is touched, all others stay.
abbrev pub goes : Side → (address : ℕ) → List Held → Went
goes side address [] = record { visit = record { caches = 0; hit = false }; after = [] }
goes side address (cache ∷ more) =
    onward (serves cache.level.serves side) (finds_in cache address) cache (touch_in cache address) more
    (goes side address more)

-- How many of the first n caches serve a side: where cache n, counted from 0, serves it, it has the next level.
abbrev pub one_more : (served : Bool) → ℕ → ℕ
one_more false n = n
one_more true n = suc n

abbrev pub before : Side → List Level → (n : ℕ) → ℕ
before side [] n = 0
before side (level ∷ more) zero = 0
before side (level ∷ more) (suc n) = one_more (serves level.serves side) (before side more n)

-- The levels that an access of a side goes through.
abbrev pub chain : Side → List Level → List Level
chain side levels = filter (λ (level : Level). serves level.serves side) levels

abbrev pub latencies : List Level → ℕ
latencies levels = sum_by (λ (level : Level). level.latency) levels

-- The cycles of a visit: the latencies of the visited caches, and memory's where none of them held the block.
abbrev pub cycles_of : Side → List Level → (memory : ℕ) → Visited → ℕ
cycles_of side levels memory visit =
    latencies (take visit.caches (chain side levels)) + (if visit.hit then 0 else memory)

abbrev pub visit_of : Side → List Level → (memory : ℕ) → Visited → Visit
visit_of side levels memory visit =
    record { caches = visit.caches; hit = visit.hit; cycles = cycles_of side levels memory visit }

-- The caches of a machine, and the latency of memory behind them.
pub record Hierarchy : Type 0 where
  pub caches : List Held
  pub memory : ℕ
