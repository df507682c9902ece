-- The caches so far hold no blocks.
use Rattle.std.proofs.Common.{◌≡◌, map, take}
use Rattle.lru_concrete.proofs.Kept.{no_blocks}
use Rattle.lru_concrete.proofs.caches.Caches.empty.Given as goal

abbrev pub invariant-loop-level : goal.invariant-loop-level
invariant-loop-level l = l.caches.items ≡ map no_blocks (take l.level-index l.levels)
