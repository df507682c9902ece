-- The caches along the moments of a run: each access finds them as those before it left them.
use Rattle.std.specs.Prelude.{◌≡◌, ℕ, Bool, false, List, [], ◌∷◌, Option, Some, None, sum_by}
use Rattle.cache_config.specs.Chains.{side_of}
use Rattle.flow_net.specs.Numbers.{item_at}
use Rattle.flow_net.specs.declared.net.Access.{Access}
use Rattle.flow_net.specs.declared.net.Net.{Net}
use Rattle.lru_concrete.specs.Chains.{Held, Went, cycles_of, goes}
use Rattle.lru_concrete.specs.declared.level.Level.{Level}
use Rattle.lru_concrete.specs.declared.level.Side.{Side}
use Rattle.net_model.specs.Accesses.{kind_of}
use Rattle.net_model.specs.Moments.{Makes, Moment, Takes}

-- The side of the caches that an access of the net goes through. A store goes through none.
abbrev pub side_by : Option Access → Option Side
side_by None = None
side_by (Some access) = side_of (kind_of access.role)

abbrev pub side_at : Net → (access : ℕ) → Option Side
side_at net access = side_by (item_at access net.accesses)

-- What an access at an address visits, and the caches after it.
abbrev pub went_through : Option Side → (address : ℕ) → List Held → Went
went_through None address caches = record { visit = record { caches = 0; hit = false }; after = caches }
went_through (Some side) address caches = goes side address caches

abbrev pub went : Net → (access address : ℕ) → List Held → Went
went net access address caches = went_through (side_at net access) address caches

-- The accesses visit just what these caches make them visit, one after the other (Hardy and Puaut 2008).
abbrev pub Moves : Net → List Held → List Moment → Type 0
Moves net caches [] = Unit {0}
Moves net caches (Takes arc ∷ more) = Moves net caches more
Moves net caches (Makes access address visited hit ∷ more) =
    ((went net access address caches).visit ≡ record { caches = visited; hit = hit })
    × Moves net (went net access address caches).after more

-- The caches after these moments.
abbrev pub caches_after : Net → List Held → List Moment → List Held
caches_after net caches [] = caches
caches_after net caches (Takes arc ∷ more) = caches_after net caches more
caches_after net caches (Makes access address visited hit ∷ more) =
    caches_after net (went net access address caches).after more

-- The cycles of a visit of so many caches: their latencies, and memory's where none of them held the block.
abbrev pub visit_latency : Option Side → List Level → (memory visited : ℕ) (hit : Bool) → ℕ
visit_latency None levels memory visited hit = 0
visit_latency (Some side) levels memory visited hit = cycles_of side levels memory (record { caches = visited; hit = hit })

abbrev pub moment_latency : Net → List Level → (memory : ℕ) → Moment → ℕ
moment_latency net levels memory (Takes arc) = 0
moment_latency net levels memory (Makes access address visited hit) =
    visit_latency (side_at net access) levels memory visited hit

-- The cycles of all visits of these moments.
abbrev pub latencies_along : Net → List Level → (memory : ℕ) → List Moment → ℕ
latencies_along net levels memory moments = sum_by (moment_latency net levels memory) moments
