-- How the code counts visits: by how many caches of its chain an access went to.
use Rattle.std.specs.Prelude.{◌≡◌, ℕ, zero, suc, ◌+◌, ◌==◌, ◌≤◌, ◌&&◌, Bool, true, false, List, [], ◌∷◌, length, All}
use Rattle.lru_concrete.specs.declared.level.Level.{Level}
use Rattle.lru_concrete.specs.declared.level.Side.{Side}
use Rattle.lru_concrete.specs.Chains.{Hierarchy, serves}
use Rattle.lru_concrete.specs.Limits.{most_latency}
use Rattle.mips_machine.specs.declared.caches.Tally.{Tally}

-- One visit more, which found its block or didn't.
abbrev pub counted : (hit : Bool) → Tally → Tally
counted true tally = record tally { hits = suc tally.hits }
counted false tally = record tally { misses = suc tally.misses }

-- A cache that serves the access counts, where there are visits left; the last visit is the one that may be a hit.
abbrev pub mark_at : (served : Bool) → (tally changed : Tally) → (stayed gone : List Tally) → List Tally
mark_at false tally changed stayed gone = tally ∷ stayed
mark_at true tally changed stayed gone = changed ∷ gone

abbrev pub marked : Side → (left : ℕ) → (hit : Bool) → List Level → List Tally → List Tally
marked side zero hit levels tallies = tallies
marked side (suc left) hit [] tallies = tallies
marked side (suc left) hit (level ∷ levels) [] = []
marked side (suc left) hit (level ∷ levels) (tally ∷ tallies) =
    mark_at (serves level.serves side) tally (counted (left == 0 && hit) tally)
    (marked side (suc left) hit levels tallies) (marked side left hit levels tallies)

-- No cache was visited more often.
abbrev pub AreAtMost : ℕ → List Tally → Type 0
AreAtMost most tallies = All (λ (tally : Tally). tally.hits + tally.misses ≤ most) tallies

-- Each cache has a tally, and the latency of memory is the one behind the caches.
pub record IsKept (caches : Hierarchy) (memory : ℕ) (tallies : List Tally) : Type 0 where
  pub same : length tallies ≡ length caches.caches
  pub behind : memory ≡ caches.memory
  pub low : memory ≤ most_latency
