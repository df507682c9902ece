use Rattle.cache_config.proofs.CacheLoop.{AreCaches}
use Rattle.cache_config.proofs.read.read_levels.Given as goal

abbrev pub invariant-loop-at : goal.invariant-loop-at
invariant-loop-at l = AreCaches l.values l.at l.levels
