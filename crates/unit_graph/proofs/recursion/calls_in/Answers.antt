use Rattle.std.proofs.Common.{◌∙◌}
use Rattle.unit_graph.specs.Program.{CalledFrom}
use Rattle.unit_graph.proofs.Sets.{IfOk-just}
use Rattle.unit_graph.proofs.Recurring.{IfOk-called}
use Rattle.unit_graph.proofs.recursion.calls_in.Goals as goal

pub returns : goal.returns
returns c =
    IfOk-called (λ calls. calls.items) c.args.rows.now c.args.returning.now.keys c.args.function c.in_ok-led.led.keys
    c.deref.result.now c.items_of-2.result c.in_ok-led.ensures (c.deref.ensures.value ∙ c.in_ok-code.ensures)
    (IfOk-just (λ calls. calls.items) (CalledFrom c.args.rows.now c.deref.result.now) c.new-calls.result.keys
    c.add_all_calls.new.calls.keys c.items_of-2.result
    c.new-calls.ensures.empty c.new-calls.ensures.ordered c.in_ok-add_all_calls.ensures c.items_of-2.ensures)
