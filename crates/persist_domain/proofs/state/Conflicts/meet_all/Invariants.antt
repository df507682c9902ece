-- The candidates so far are conflicts.
use Rattle.std.proofs.Common.{◌-◌}
use Rattle.persist_domain.proofs.Touching.{IsWalk}
use Rattle.persist_domain.proofs.state.Conflicts.meet_all.Given as goal

abbrev pub invariant-loop-rest : goal.invariant-loop-rest
invariant-loop-rest l = IsWalk l.fn.self l.candidates l.rest l.self

abbrev pub decreases-loop-rest : goal.decreases-loop-rest
decreases-loop-rest l = l.rest.last - l.rest.first
