-- The key stands between the ends of the part, if anywhere.
use Rattle.std.proofs.Common.{◌-◌}
use Rattle.domain_laws.proofs.Places.{IsSearch}
use Rattle.domain_laws.proofs.entries.place_of.Given as goal

abbrev pub invariant-loop-low : goal.invariant-loop-low
invariant-loop-low g l = IsSearch l.entries l.key l.low l.high

abbrev pub decreases-loop-low : goal.decreases-loop-low
decreases-loop-low g l = l.high - l.low
