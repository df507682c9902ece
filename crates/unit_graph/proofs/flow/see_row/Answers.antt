use Rattle.std.proofs.Common.{rules}
use Rattle.unit_graph.proofs.Behind.{row_alone, row_program}
use Rattle.unit_graph.proofs.flow.see_row.Goals as goal

pub returns-then-eq : goal.returns-then-eq
returns-then-eq c =
    row_alone c.args.returning.now.keys c.args.reach c.args.row.now c.args.seen.now.keys c.args.waiting.now.items
    c.see_onward.new.seen.keys c.see_onward.new.waiting.items (search rules) c.in_ok-see_onward.ensures

pub returns : goal.returns
returns c =
    row_program c.args.returning.now.keys c.args.reach c.args.row.now c.as_slice.result.now c.args.seen.now.keys c.args.waiting.now.items
    c.see_onward.new.seen.keys c.see_onward.new.waiting.items c.see_all.new.seen.keys c.see_all.new.waiting.items
    (search rules) c.as_slice.ensures c.in_ok-see_onward.ensures c.in_ok-see_all.ensures
