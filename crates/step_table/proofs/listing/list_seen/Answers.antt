use Rattle.std.proofs.Common.{arith}
use Rattle.std.proofs.lemmas.Option.{slice_get_read}
use Rattle.step_table.proofs.Listed.{listed_more, listed_next, listed_start}
use Rattle.step_table.proofs.listing.list_seen.Goals as goal

pub loop-first-init : goal.loop-first-init
loop-first-init c =
    listed_start c.args.table.now c.args.starts.now c.args.barred c.args.seen.now c.args.list.now.items
    c.see_all.new.seen c.see_all.new.waiting.items c.requires.unmarked c.requires.empty c.in_ok-see_all.ensures

pub steps_at-requires-clause-there : goal.steps_at-requires-clause-there
steps_at-requires-clause-there c =
    listed_next c.args.table.now c.args.starts.now c.args.barred c.loop-first.seen c.loop-first.list.items
    c.loop-first.first c.index-next.result.now
    (slice_get_read c.loop-first.list.items c.len.result c.loop-first.first c.index-next.result.now
    (omega (arith, c.len.ensures, c.loop-first.list.ok)) c.loop-first-test.true c.index-next.ensures)
    c.loop-first.invariant

pub loop-first-preserved : goal.loop-first-preserved
loop-first-preserved c =
    listed_more c.args.table.now c.args.starts.now c.args.barred c.loop-first.seen c.loop-first.list.items
    c.loop-first.first c.index-next.result.now c.steps_at.result.now c.see_all-in-loop-first.new.seen
    c.see_all-in-loop-first.new.waiting.items
    (slice_get_read c.loop-first.list.items c.len.result c.loop-first.first c.index-next.result.now
    (omega (arith, c.len.ensures, c.loop-first.list.ok)) c.loop-first-test.true c.index-next.ensures)
    c.steps_at.ensures.there c.loop-first.invariant c.in_ok-see_all-2.ensures
