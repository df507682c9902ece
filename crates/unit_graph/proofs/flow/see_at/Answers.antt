use Rattle.std.proofs.lemmas.List.Elements.{All-contains}
use Rattle.unit_graph.specs.Rows.{IsRow}
use Rattle.unit_graph.proofs.Behind.{leads_row}
use Rattle.unit_graph.proofs.FarSight.{low_some}
use Rattle.unit_graph.proofs.flow.see_at.Goals as goal

pub see_row-requires : goal.see_row-requires
see_row-requires c =
    low_some c.requires.each.0 c.in-Some.row.now
    (All-contains (IsRow c.requires.each.0) c.args.rows.now c.in-Some.row.now c.requires.each.1 c.in-Some.ensures.listed)

pub returns : goal.returns
returns c =
    leads_row c.args.rows.now c.args.returning.now.keys c.args.reach c.args.address c.in-Some.row.now
    c.args.seen.now.keys c.args.waiting.now.items c.see_row.new.seen.keys c.see_row.new.waiting.items
    c.requires.rising c.in-Some.ensures.listed c.in-Some.ensures.same c.in_ok-see_row.ensures
