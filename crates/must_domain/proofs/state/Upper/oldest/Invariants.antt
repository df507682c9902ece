-- The greatest bound so far, with that of the rest, is that of all.
use Rattle.std.proofs.Common.{◌-◌, ◌≤◌}
use Rattle.must_domain.specs.States.{age_of}
use Rattle.must_domain.proofs.Walking.{IsWalk}
use Rattle.must_domain.proofs.state.Upper.oldest.Given as goal

abbrev pub invariant-loop-oldest : goal.invariant-loop-oldest
invariant-loop-oldest l =
    IsWalk (age_of l.self) l.candidates l.rest l.oldest × (l.oldest ≤ l.self.ways)

abbrev pub decreases-loop-oldest : goal.decreases-loop-oldest
decreases-loop-oldest l = l.rest.last - l.rest.first
