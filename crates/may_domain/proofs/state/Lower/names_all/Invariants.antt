-- All candidates so far are named.
use Rattle.std.proofs.Common.{◌-◌}
use Rattle.may_domain.proofs.Doubting.{IsWalk}
use Rattle.may_domain.proofs.state.Lower.names_all.Given as goal

abbrev pub invariant-loop-self : goal.invariant-loop-self
invariant-loop-self l = IsWalk l.self.ages l.candidates l.rest

abbrev pub decreases-loop-self : goal.decreases-loop-self
decreases-loop-self l = l.rest.last - l.rest.first
