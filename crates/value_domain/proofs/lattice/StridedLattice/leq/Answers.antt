-- The order of values is that of the numbers that they hold.
use Rattle.std.proofs.Common.{sym, ◌∙◌}
use Rattle.value_domain.specs.OrderLemmas.{under, from_under}
use Rattle.value_domain.proofs.HeldNumbers.{under_holds, holds_under}
use Rattle.value_domain.proofs.lattice.StridedLattice.leq.Goals as goal

pub returns-clause-numbers : goal.returns-clause-numbers
returns-clause-numbers c = (
  λ e n h. under_holds c.args.self.now c.args.other.now n (under _ _ (sym c.is_under.ensures ∙ e)) h,
  λ all. c.is_under.ensures ∙ from_under c.args.self.now c.args.other.now (holds_under c.args.self.now c.args.other.now c.step.ensures.shape all),
)
