-- The ranges so far, and those that are left.
use Rattle.std.proofs.Common.{◌≡◌, ◌++◌, drop, map}
use Rattle.address_analysis.specs.Ranges.{own_span}
use Rattle.address_analysis.proofs.ranges.own_rows.Given as goal

abbrev pub invariant-loop-access : goal.invariant-loop-access
invariant-loop-access l = l.rows ++ map own_span (drop l.access-index l.net.accesses) ≡ map own_span l.net.accesses
