use Rattle.std.proofs.Common.{rules}
use Rattle.unit_graph.proofs.FarSight.{Sees-calls, Sees-no_calls}
use Rattle.unit_graph.proofs.span.see_far.Goals as goal

pub returns-then-is_empty : goal.returns-then-is_empty
returns-then-is_empty c =
    Sees-no_calls c.args.row.now c.as_slice.result.now c.as_slice-2.result.now c.args.seen.now.keys c.args.waiting.now.items
    c.see_all.new.seen.keys c.see_all.new.waiting.items c.see_all-2.new.seen.keys c.see_all-2.new.waiting.items
    c.as_slice.ensures c.as_slice-2.ensures c.in_ok-see_all.ensures c.in_ok-see_all-2.ensures
    (search rules)

pub returns : goal.returns
returns c =
    Sees-calls c.args.row.now c.as_slice.result.now c.as_slice-2.result.now c.args.seen.now.keys c.args.waiting.now.items
    c.see_all.new.seen.keys c.see_all.new.waiting.items c.see_all-2.new.seen.keys c.see_all-2.new.waiting.items
    c.see.new.seen.keys c.see.new.waiting.items
    c.as_slice.ensures c.as_slice-2.ensures c.in_ok-see_all.ensures c.in_ok-see_all-2.ensures c.in_ok-see.ensures
    (search rules)
