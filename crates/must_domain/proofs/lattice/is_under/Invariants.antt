-- The entries so far are under their bounds.
use Rattle.std.proofs.Common.{◌≡◌, drop}
use Rattle.std.specs.Prelude.{nat_le}
use Rattle.domain_laws.specs.Maps.{map_leq}
use Rattle.must_domain.proofs.lattice.is_under.Given as goal

abbrev pub invariant-loop-entry : goal.invariant-loop-entry
invariant-loop-entry l = map_leq nat_le l.below (drop l.entry-index l.above) ≡ map_leq nat_le l.below l.above
