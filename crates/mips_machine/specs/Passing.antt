-- What the accesses of a unit do to the machine's caches, what they count there, and what they cost.
use Rattle.std.specs.Prelude.{ℕ, suc, ◌+◌, Bool, true, false, List, [], ◌∷◌, Option, Some, None}
use Rattle.cache_config.specs.Chains.{side_of}
use Rattle.lru_concrete.specs.declared.level.Side.{Side}
use Rattle.lru_concrete.specs.Chains.{Held, cycles_of, finds_in, goes, levels_of, serves}
use Rattle.mips_decode.specs.Accesses.{UnitAccess}
use Rattle.mips_machine.specs.declared.caches.Tally.{Tally}

-- The machine's caches with what they hold, the latency of memory behind them, and the tally of each cache.
pub record Tallied : Type 0 where
  pub held : List Held
  pub memory : ℕ
  pub tallies : List Tally

abbrev pub no_visits : Tally
no_visits = record { hits = 0; misses = 0 }

-- What a visit counts: a hit where the cache holds the block, else a miss, and then the access goes on to the rest of
-- the caches.
abbrev pub counting : (served found : Bool) → Tally → (more rest : List Tally) → List Tally
counting false found tally more rest = tally ∷ rest
counting true true tally more rest = record tally { hits = suc tally.hits } ∷ more
counting true false tally more rest = record tally { misses = suc tally.misses } ∷ rest

-- The tallies after an access: each cache that it visits counts once.
abbrev pub tallied : Side → (address : ℕ) → List Held → List Tally → List Tally
tallied side address [] tallies = tallies
tallied side address (cache ∷ more) [] = []
tallied side address (cache ∷ more) (tally ∷ tallies) =
    counting (serves cache.level.serves side) (finds_in cache address) tally tallies (tallied side address more tallies)

-- The caches after an access. A store goes through none of them.
abbrev pub passed : Option Side → (address : ℕ) → Tallied → Tallied
passed None address caches = caches
passed (Some side) address caches = record caches {
  held = (goes side address caches.held).after;
  tallies = tallied side address caches.held caches.tallies;
}

-- The caches after accesses, one after the other.
abbrev pub passed_all : List UnitAccess → Tallied → Tallied
passed_all [] caches = caches
passed_all (access ∷ more) caches = passed_all more (passed (side_of access.kind) access.address caches)

-- The cycles of an access: the latencies of all that it visits, memory's where none of its caches holds its block.
abbrev pub visit_cost : Option Side → (address : ℕ) → Tallied → ℕ
visit_cost None address caches = 0
visit_cost (Some side) address caches =
    cycles_of side (levels_of caches.held) caches.memory (goes side address caches.held).visit

-- The cycles of accesses, each of which finds the caches as those before it left them.
abbrev pub access_costs : List UnitAccess → Tallied → ℕ
access_costs [] caches = 0
access_costs (access ∷ more) caches =
    visit_cost (side_of access.kind) access.address caches
    + access_costs more (passed (side_of access.kind) access.address caches)
