use Rattle.std.proofs.Common.{◌+◌, ℕ, Contains, subst, sym, take, arith}
use Rattle.loop_nest.specs.Cycles.{AreForward}
use Rattle.loop_nest.proofs.Choosing.{chosen_end, chosen_more, chosen_same}
use Rattle.loop_nest.proofs.irreducible.forward_steps.Goals as goal

pub loop-to-preserved-then-is_among : goal.loop-to-preserved-then-is_among
loop-to-preserved-then-is_among c =
    chosen_same (λ (x : ℕ). Contains c.args.backs.now x → ⊥) c.args.steps.now c.loop-to.to-index c.loop-to.list
    c.loop-to-test.true c.loop-to.invariant (λ free. free (c.is_among.ensures.0 c.if-is_among.true))

pub loop-to-preserved : goal.loop-to-preserved
loop-to-preserved c =
    subst (AreForward c.args.backs.now (take (c.loop-to.to-index + 1) c.args.steps.now)) (sym c.in_ok-push.ensures.ok)
    (chosen_more (λ (x : ℕ). Contains c.args.backs.now x → ⊥) c.args.steps.now c.loop-to.to-index c.loop-to.list
    c.loop-to-test.true c.loop-to.invariant
    (λ among. let h = c.is_among.ensures.1 among in let f = c.if-is_among.false in cc))

pub returns : goal.returns
returns c =
    chosen_end (λ (x : ℕ). Contains c.args.backs.now x → ⊥) c.args.steps.now c.loop-to.to-index c.loop-to.list
    (omega (arith, c.loop-to-test.false)) c.loop-to.invariant
