-- The ends and the step of a wider value are in their one form.
use Rattle.value_domain.specs.LatticeLaws.{strided_spread}
use Rattle.value_domain.proofs.lattice.widened.Goals as goal

pub spaced-requires : goal.spaced-requires
spaced-requires c =
    rw (c.low_end-lo.ensures, c.high_end-hi.ensures, c.lo.ensures.value, c.lo-2.ensures.value, c.hi.ensures, c.hi-2.ensures, c.step-3.ensures.value, c.step-4.ensures.value, c.step-5.ensures.value, c.joined-both.ensures)
    (strided_spread c.args.old.now c.args.newer.now c.step.ensures.shape c.step-2.ensures.shape)
