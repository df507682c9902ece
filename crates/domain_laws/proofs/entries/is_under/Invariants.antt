-- The entries so far are under their values.
use Rattle.std.proofs.Common.{◌≡◌, drop}
use Rattle.domain_laws.specs.Maps.{map_leq}
use Rattle.domain_laws.proofs.entries.is_under.Given as goal

abbrev pub invariant-loop-key : goal.invariant-loop-key
invariant-loop-key g l = map_leq g.D.Lattice.leq l.below (drop l.key-index l.above) ≡ map_leq g.D.Lattice.leq l.below l.above
