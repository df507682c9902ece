-- The differences of the ends.
use Rattle.value_domain.proofs.AddedSpans.{whole_of, whole_opposite, opposite, whole_sum}
use Rattle.value_domain.proofs.sums.difference.Goals as goal

pub wrapped-requires : goal.wrapped-requires
wrapped-requires c =
    rw (c.from.ensures, c.from-2.ensures, c.from-3.ensures, c.from-4.ensures, c.from-5.ensures, c.common_step-step.ensures.value, c.lo.ensures.value, c.lo-2.ensures.value, c.hi.ensures, c.hi-2.ensures)
    (whole_sum c.args.a.now (opposite c.args.b.now) (whole_of c.args.a.now c.common_step-step.ensures.left) (whole_opposite c.args.b.now c.common_step-step.ensures.right))
