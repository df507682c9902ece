-- The order in which the search leaves the positions is such an order.
use Rattle.std.proofs.lemmas.Result.{IfOk-weaker}
use Rattle.step_table.specs.Rings.{IsOrder}
use Rattle.call_contexts.specs.Counting.{IsFinished}
use Rattle.call_contexts.proofs.Finishing.{finished}
use Rattle.call_contexts.proofs.sizes.steps_first.Goals as goal

pub returns : goal.returns
returns c = IfOk-weaker c.order_of.result (λ order. IsOrder c.args.table.now order.items) (λ order. IsFinished c.args.table.now order.items)
    (λ order is. finished c.args.table.now order.items c.requires.acyclic is) c.order_of.ensures
