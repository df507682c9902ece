-- A walk of the code through the caches.
use Rattle.std.specs.Prelude.{◌≡◌, ℕ, ◌≤◌, List, length, take}
use Rattle.lru_concrete.specs.declared.level.Level.{Level}
use Rattle.lru_concrete.specs.declared.level.Side.{Side}
use Rattle.lru_concrete.specs.declared.visit.Visit.{Visit}
use Rattle.lru_concrete.specs.Limits.{most_latency, most_levels}
use Rattle.lru_concrete.specs.Contents.{Content}
use Rattle.lru_concrete.specs.Chains.{AreOfLevels, Visited, chain, latencies}

-- What a machine's caches keep.
pub record KeepsLevels (levels : List Level) (contents : List Content) (memory : ℕ) : Type 0 where
  pub same : AreOfLevels levels contents
  pub few : length levels ≤ most_levels
  pub low : memory ≤ most_latency

-- The code's visit tells what was visited, with the latencies of the caches.
pub record IsVisit (side : Side) (levels : List Level) (visited : Visited) (visit : Visit) : Type 0 where
  pub caches : visit.caches ≡ visited.caches
  pub hit : visit.hit ≡ visited.hit
  pub cycles : visit.cycles ≡ latencies (take visited.caches (chain side levels))
  pub low : visit.cycles ≤ 6000000
