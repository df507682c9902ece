-- The entries so far are under their bounds.
use Rattle.std.proofs.Common.{◌≡◌, drop}
use Rattle.domain_laws.specs.Maps.{map_leq}
use Rattle.may_domain.specs.Order.{at_least}
use Rattle.may_domain.proofs.lattice.is_under.Given as goal

abbrev pub invariant-loop-entry : goal.invariant-loop-entry
invariant-loop-entry l = map_leq at_least l.below (drop l.entry-index l.above) ≡ map_leq at_least l.below l.above
