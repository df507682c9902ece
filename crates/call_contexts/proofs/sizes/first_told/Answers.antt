use Rattle.call_contexts.proofs.Totals.{told_first}
use Rattle.call_contexts.proofs.sizes.first_told.Goals as goal

pub returns : goal.returns
returns c =
    told_first c.args.table.now c.args.own.now c.args.order.now c.in_ok-told.told.items c.index.result.now c.requires.finished c.in_ok-told.ensures.told
    c.requires.some c.index.ensures
