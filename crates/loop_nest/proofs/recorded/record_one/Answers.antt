use Rattle.std.proofs.Common.{subst, ℕ, ◌≡◌, Option, Some}
use Rattle.std.specs.BTreeMap.{get}
use Rattle.std.specs.Ordering.{nat_cmp}
use Rattle.loop_nest.specs.Bounds.{lesser_of}
use Rattle.loop_nest.proofs.Recording.{recorded_more, recorded_other}
use Rattle.loop_nest.proofs.recorded.record_one.Goals as goal

pub returns-then-mark-ne1 : goal.returns-then-mark-ne1
returns-then-mark-ne1 c marks are =
    recorded_other marks c.args.mark.now (get nat_cmp c.args.recorded.now) c.if-mark-ne1.true are

pub returns : goal.returns
returns c marks are =
    recorded_more marks c.args.mark.now c.from-address.result c.lesser-least.result (get nat_cmp c.args.recorded.now)
    (get nat_cmp c.insert.new.self) c.if-mark-ne1.false c.from-address.ensures
    (subst (λ (bound : Option ℕ). Some c.lesser-least.result ≡ lesser_of bound (Some c.args.mark.now.x)) c.bound_at.ensures
    c.lesser-least.ensures)
    c.in_ok-insert.ensures.updates.1 c.in_ok-insert.ensures.updates.2 are
