-- Both values have the one shape of all values.
use Rattle.std.proofs.Common.{[], sym, subst}
use Rattle.domain_laws.specs.Shapes.Shape.{plain}
use Rattle.value_domain.specs.Spans.{IsStrided}
use Rattle.value_domain.proofs.tests.widened.Goals as goal

pub widen-requires : goal.widen-requires
widen-requires c = (plain [], subst IsStrided (sym c.in_ok-value.ensures) c.step.ensures.shape, c.step-2.ensures.shape)
