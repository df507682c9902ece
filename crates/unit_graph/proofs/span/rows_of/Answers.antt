use Rattle.std.proofs.Common.{◌∙◌}
use Rattle.unit_graph.proofs.RowTable.{IfOk-rows}
use Rattle.unit_graph.proofs.span.rows_of.Goals as goal

pub returns : goal.returns
returns c =
    IfOk-rows (λ rows. rows.items) c.args.image.now c.args.entry c.in_ok-span.span.keys c.deref.result.now c.list_rows.result
    c.in_ok-span.ensures (c.deref.ensures.value ∙ c.in_ok-addresses.ensures) c.list_rows.ensures.listed c.list_rows.ensures.each
