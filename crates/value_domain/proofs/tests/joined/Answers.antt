-- Both values have the one shape of all values.
use Rattle.std.proofs.Common.{[], sym, subst}
use Rattle.domain_laws.specs.Shapes.Shape.{plain}
use Rattle.value_domain.specs.Spans.{IsStrided}
use Rattle.value_domain.proofs.tests.joined.Goals as goal

pub join-requires : goal.join-requires
join-requires c = (plain [], subst IsStrided (sym c.in_ok-value.ensures) c.step.ensures.shape, c.step-2.ensures.shape)
