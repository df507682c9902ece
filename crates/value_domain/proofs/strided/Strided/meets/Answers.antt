-- Which numbers are met.
use Rattle.std.proofs.Common.{sym, ◌∙◌}
use Rattle.value_domain.proofs.HeldNumbers.{meets_number, number_meets}
use Rattle.value_domain.proofs.strided.Strided.meets.Goals as goal

pub returns-clause-numbers : goal.returns-clause-numbers
returns-clause-numbers c = (
  λ e. meets_number c.args.self.now c.args.from c.args.to c.step-shape.ensures.shape (sym c.is_met.ensures ∙ e),
  λ m. c.is_met.ensures ∙ number_meets c.args.self.now c.args.from c.args.to c.step-shape.ensures.shape m,
)
