-- The ends and the step of a join are in their one form.
use Rattle.value_domain.specs.Spans.{IsStrided}
use Rattle.value_domain.specs.Order.{joined}
use Rattle.value_domain.specs.LatticeLaws.{strided_joined}
use Rattle.value_domain.proofs.lattice.joined.Goals as goal

pub spaced-requires : goal.spaced-requires
unfolding joined
spaced-requires c =
    let s : IsStrided (joined c.args.a.now c.args.b.now) = strided_joined c.args.a.now c.args.b.now c.step.ensures.shape c.step-2.ensures.shape in
    rw (c.gcd-step.ensures, c.gcd.ensures, c.max-2.ensures, c.max.ensures, c.min-least.ensures, c.lo.ensures.value, c.lo-2.ensures.value, c.lo-3.ensures.value, c.lo-4.ensures.value, c.hi.ensures, c.hi-2.ensures, c.step.ensures.value, c.step-2.ensures.value) s
