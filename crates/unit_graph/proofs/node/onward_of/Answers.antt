use Rattle.std.proofs.Common.{◌∙◌}
use Rattle.unit_graph.specs.Flow.{Follows}
use Rattle.unit_graph.proofs.Sets.{AreJust-gained}
use Rattle.unit_graph.proofs.node.onward_of.Goals as goal

pub returns : goal.returns
returns c =
    AreJust-gained (Follows c.args.returning.now.keys c.args.row.now) c.new-onward.result.keys
    c.add_onward.new.found.keys c.from_vec.result
    c.new-onward.ensures.empty c.new-onward.ensures.ordered c.in_ok-add_onward.ensures
    (c.from_vec.ensures ∙ c.in_ok-items.ensures)
