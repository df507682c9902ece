use Rattle.std.proofs.Common.{◌<◌, [], length, arith}
use Rattle.std.proofs.lemmas.List.Elements.{All-cons, All-nil}
use Rattle.step_table.proofs.Meeting.{empty_by}
use Rattle.step_table.proofs.Ringing.{marking_end, marking_more, marking_start, next_within}
use Rattle.step_table.proofs.rings.mark_all.Goals as goal

pub loop-position-init : goal.loop-position-init
loop-position-init c =
    marking_start c.args.table.now c.args.reverse.now c.args.order.items c.args.seen.now c.args.marks.now
    c.requires.reverse c.requires.order c.requires.unseen c.requires.count

pub see_more-requires-clause-starts : goal.see_more-requires-clause-starts
see_more-requires-clause-starts c =
    All-cons (λ start. start < length c.args.reverse.now) c.in-Some.position []
    (omega (
      arith,
      c.requires.reverse.count,
      next_within c.args.table.now c.args.reverse.now c.loop-position.order.items c.pop.new.self.items
          c.loop-position.seen c.loop-position.marks c.in-Some.position c.loop-position.invariant c.in-Some.ensures.items,
    ))
    (All-nil (λ start. start < length c.args.reverse.now))

pub see_more-requires-clause-sized : goal.see_more-requires-clause-sized
see_more-requires-clause-sized c = c.loop-position.invariant.sees.count

pub steps_at-requires-clause-there : goal.steps_at-requires-clause-there
steps_at-requires-clause-there c =
    next_within c.args.table.now c.args.reverse.now c.loop-position.order.items c.pop.new.self.items
    c.loop-position.seen c.loop-position.marks c.in-Some.position c.loop-position.invariant c.in-Some.ensures.items

pub bounds-marks-position : goal.bounds-marks-position
bounds-marks-position c =
    omega (
      arith,
      c.loop-position.invariant.count,
      next_within c.args.table.now c.args.reverse.now c.loop-position.order.items c.pop.new.self.items
          c.loop-position.seen c.loop-position.marks c.in-Some.position c.loop-position.invariant c.in-Some.ensures.items,
    )

pub loop-position-preserved : goal.loop-position-preserved
loop-position-preserved c =
    marking_more c.args.table.now c.args.reverse.now c.loop-position.order.items c.pop.new.self.items c.in-Some.position
    c.loop-position.seen c.see_more.new.seen c.loop-position.marks c.has_seen.result c.steps_at.result.now
    c.requires.reverse c.loop-position.invariant c.in-Some.ensures.items c.in_ok-see_more.ensures
    c.steps_at.ensures.there c.has_seen.ensures.some c.has_seen.ensures.none

pub returns : goal.returns
returns c =
    marking_end c.args.table.now c.args.reverse.now c.loop-position.order.items c.loop-position.seen c.loop-position.marks
    c.loop-position.invariant
    (empty_by c.loop-position.order.items (λ h. omega (arith, c.in_default.ensures.cases, c.loop-position.order.ok)))
