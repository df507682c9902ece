-- No entry so far is the block's.
use Rattle.std.proofs.Common.{◌≡◌, drop}
use Rattle.domain_laws.specs.Maps.{value_at}
use Rattle.must_domain.proofs.state.age_in.Given as goal

abbrev pub invariant-loop-entry : goal.invariant-loop-entry
invariant-loop-entry l = value_at l.block (drop l.entry-index l.ages) ≡ value_at l.block l.ages
