-- Ends that wrap equally often, and ends that don't.
use Rattle.std.proofs.Common.{◌≡◌, ◌≤◌, ◌/◌, ◌^◌, ◌-◌, true, false, eqb, arith, refl}
use Rattle.std.proofs.lemmas.Bool.{eq-eqb, ne_eqb}
use Rattle.value_domain.specs.Results.{wrapped}
use Rattle.value_domain.specs.OrderLemmas.{step_fits}
use Rattle.value_domain.proofs.strided.Strided.wrapped.Goals as goal

pub overflow_cast-result-then-lo-hi-2 : goal.overflow_cast-result-then-lo-hi-2
overflow_cast-result-then-lo-hi-2 c =
    let w = c.requires in
    let l : c.args.step ≤ c.args.hi - c.args.lo = step_fits c.args.lo c.args.hi c.args.step w.order w.whole w.one in
    omega (arith, c.if-lo-hi.true)

pub returns-then-lo-hi : goal.returns-then-lo-hi
unfolding wrapped
returns-then-lo-hi c =
    let e : eqb (c.args.lo / 2 ^ 32) (c.args.hi / 2 ^ 32) ≡ true = eq-eqb _ _ c.if-lo-hi.true in
    rw e refl

pub returns : goal.returns
unfolding wrapped
returns c =
    let e : eqb (c.args.lo / 2 ^ 32) (c.args.hi / 2 ^ 32) ≡ false = ne_eqb _ _ c.if-lo-hi.false in
    rw e c.all.ensures.value
