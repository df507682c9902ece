use Rattle.std.proofs.Common.{List, subst, sym, take, arith}
use Rattle.std.proofs.lemmas.List.{take_all}
use Rattle.unit_graph.specs.Inference.{IsEnd}
use Rattle.unit_graph.specs.Search.{Sees}
use Rattle.unit_graph.specs.declared.rows.Row.{Row}
use Rattle.step_table.proofs.Seen.{one_more}
use Rattle.unit_graph.proofs.Ends.{ends_more, ends_nobody}
use Rattle.unit_graph.proofs.inference.see_ends.Goals as goal

pub loop-row-init : goal.loop-row-init
loop-row-init c = ends_nobody c.args.returning.now.keys c.args.waiting.now.items

pub loop-row-preserved : goal.loop-row-preserved
loop-row-preserved c =
    let at = c.loop-row.row-index in
    let one = c.row-item.result in
    subst
    (λ (some : List Row). Sees (IsEnd some) c.args.returning.now.keys c.args.waiting.now.items c.see_end.new.returning.keys c.see_end.new.waiting.items)
    (sym (one_more c.args.rows.now at one c.loop-row-test.true c.row-item.is))
    (ends_more (take at c.args.rows.now) one c.args.returning.now.keys c.args.waiting.now.items
    c.loop-row.returning.keys c.loop-row.waiting.items c.see_end.new.returning.keys c.see_end.new.waiting.items
    c.loop-row.invariant c.in_ok-see_end.ensures)

pub returns : goal.returns
returns c =
    subst
    (λ (some : List Row). Sees (IsEnd some) c.args.returning.now.keys c.args.waiting.now.items c.loop-row.returning.keys c.loop-row.waiting.items)
    (take_all c.loop-row.row-index c.args.rows.now (omega (arith, c.loop-row-test.false)))
    c.loop-row.invariant
