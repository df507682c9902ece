use Rattle.cache_config.proofs.RegionLoop.{AreRead}
use Rattle.cache_config.proofs.read.read_regions.Given as goal

abbrev pub invariant-loop-at : goal.invariant-loop-at
invariant-loop-at l = AreRead l.stack l.values l.at l.regions
