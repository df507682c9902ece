use Rattle.std.proofs.Common.{ℕ, List, subst, sym, arith}
use Rattle.step_table.specs.Rings.{IsDepth}
use Rattle.step_table.proofs.Leaving.{depth_leave, depth_within, opens_kept, opens_seen, opens_start}
use Rattle.step_table.proofs.finishing.leave_from.Goals as goal

pub loop-last-init : goal.loop-last-init
loop-last-init c = record {
  depth = opens_start c.args.table.now c.args.order.now.items c.args.seen.now c.args.ahead.now c.new-trail.result.items
      c.args.start c.open.new.seen c.open.new.trail.items c.requires.depth c.requires.there c.new-trail.ensures.items
      c.in_ok-open.ensures;
  kept = λ x h. h;
  seen = opens_seen c.args.start c.args.seen.now c.new-trail.result.items c.open.new.seen c.open.new.trail.items
      (omega (arith, c.requires.there, c.requires.depth.sized)) c.in_ok-open.ensures;
}

pub ahead_at-requires : goal.ahead_at-requires
ahead_at-requires c =
    depth_within c.args.table.now c.loop-last.order.items c.loop-last.seen c.loop-last.ahead c.loop-last.trail.items
    c.pop.new.self.items c.in-Some.last c.loop-last.invariant.depth c.in-Some.ensures.items

pub loop-last-preserved : goal.loop-last-preserved
loop-last-preserved c = record {
  depth = subst (λ (order : List ℕ). IsDepth c.args.table.now order c.loop-last.seen c.loop-last.ahead c.pop.new.self.items)
      (sym c.in_ok-push.ensures.items)
      (depth_leave c.args.table.now c.loop-last.order.items c.loop-last.seen c.loop-last.ahead c.pop.new.self.items c.in-Some.last
      (subst (IsDepth c.args.table.now c.loop-last.order.items c.loop-last.seen c.loop-last.ahead) c.in-Some.ensures.items c.loop-last.invariant.depth)
      (omega (arith, c.ahead_at.ensures, c.if-ahead_at-gt0.false)));
  kept = c.loop-last.invariant.kept;
  seen = c.loop-last.invariant.seen;
}

pub returns-clause-kept : goal.returns-clause-kept
returns-clause-kept c x h =
    c.loop-last.invariant.kept x
    (opens_kept c.args.start c.args.seen.now c.new-trail.result.items c.open.new.seen c.open.new.trail.items
    (omega (arith, c.requires.there, c.requires.depth.sized)) c.in_ok-open.ensures x h)
