use Rattle.std.proofs.Common.{◌+◌, ◌≤◌, ℕ, subst, sym, take, arith}
use Rattle.step_table.specs.Numbers.{number_of}
use Rattle.loop_nest.proofs.Choosing.{AreChosen, chosen_end, chosen_more, chosen_same}
use Rattle.loop_nest.proofs.retreats.retreating.Goals as goal

pub loop-position-preserved-then-ranks-position : goal.loop-position-preserved-then-ranks-position
loop-position-preserved-then-ranks-position c =
    chosen_same (λ (x : ℕ). number_of c.args.ranks.now x ≤ number_of c.args.ranks.now c.args.header) c.args.positions.now
    c.loop-position.position-index c.loop-position.list c.loop-position-test.true c.loop-position.invariant
    (λ h. omega (arith, h, c.if-ranks-position.true))

pub loop-position-preserved : goal.loop-position-preserved
loop-position-preserved c =
    subst (AreChosen (λ (x : ℕ). number_of c.args.ranks.now x ≤ number_of c.args.ranks.now c.args.header)
    (take (c.loop-position.position-index + 1) c.args.positions.now)) (sym c.in_ok-push.ensures.ok)
    (chosen_more (λ (x : ℕ). number_of c.args.ranks.now x ≤ number_of c.args.ranks.now c.args.header) c.args.positions.now
    c.loop-position.position-index c.loop-position.list c.loop-position-test.true c.loop-position.invariant
    (omega (arith, c.if-ranks-position.false)))

pub returns : goal.returns
returns c =
    chosen_end (λ (x : ℕ). number_of c.args.ranks.now x ≤ number_of c.args.ranks.now c.args.header) c.args.positions.now
    c.loop-position.position-index c.loop-position.list (omega (arith, c.loop-position-test.false)) c.loop-position.invariant
