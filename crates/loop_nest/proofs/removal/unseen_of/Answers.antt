use Rattle.std.proofs.Common.{◌+◌, ℕ, subst, sym, take, arith}
use Rattle.step_table.specs.Search.{IsSeen}
use Rattle.loop_nest.proofs.Choosing.{AreChosen, chosen_end, chosen_more, chosen_same, seen_by, unseen_from}
use Rattle.loop_nest.proofs.removal.unseen_of.Goals as goal

pub loop-position-preserved-then-seen-position : goal.loop-position-preserved-then-seen-position
loop-position-preserved-then-seen-position c =
    chosen_same (λ (x : ℕ). IsSeen c.args.seen.now x → ⊥) c.args.positions.now c.loop-position.position-index
    c.loop-position.list c.loop-position-test.true c.loop-position.invariant
    (λ h. h (seen_by c.args.seen.now _ (c.requires c.loop-position.position-index 0 c.loop-position-test.true) c.if-seen-position.true))

pub loop-position-preserved : goal.loop-position-preserved
loop-position-preserved c =
    subst (AreChosen (λ (x : ℕ). IsSeen c.args.seen.now x → ⊥) (take (c.loop-position.position-index + 1) c.args.positions.now))
    (sym c.in_ok-push.ensures.ok)
    (chosen_more (λ (x : ℕ). IsSeen c.args.seen.now x → ⊥) c.args.positions.now c.loop-position.position-index
    c.loop-position.list c.loop-position-test.true c.loop-position.invariant
    (unseen_from c.args.seen.now _ (c.requires c.loop-position.position-index 0 c.loop-position-test.true) c.if-seen-position.false))

pub returns : goal.returns
returns c =
    chosen_end (λ (x : ℕ). IsSeen c.args.seen.now x → ⊥) c.args.positions.now c.loop-position.position-index
    c.loop-position.list (omega (arith, c.loop-position-test.false)) c.loop-position.invariant
