use Rattle.std.proofs.Common.{◌≡◌}
use Rattle.unit_graph.specs.Program.{CalledFrom}
use Rattle.unit_graph.proofs.Gaining.{Gains-then}
use Rattle.unit_graph.proofs.Sets.{IfOk-just}
use Rattle.unit_graph.proofs.program.functions_of.Goals as goal

pub returns : goal.returns
returns c =
    IfOk-just (λ functions. functions.items) _ c.new-functions.result.keys c.add_all_calls.new.calls.keys c.items_of.result
    c.new-functions.ensures.empty c.new-functions.ensures.ordered
    (Gains-then (λ x. c.args.entry ≡ x) (CalledFrom c.args.rows.now c.args.code.now) c.new-functions.result.keys
    c.add.new.set.keys c.add_all_calls.new.calls.keys c.in_ok-add.ensures c.in_ok-add_all_calls.ensures)
    c.items_of.ensures
