use Rattle.std.proofs.Common.{◌∙◌}
use Rattle.unit_graph.proofs.Sets.{AreJust-rising}
use Rattle.unit_graph.proofs.node.calls_of.Goals as goal

pub returns : goal.returns
returns c = AreJust-rising c.args.calls.now c.from_vec.result c.requires (c.from_vec.ensures ∙ c.in_ok-from_slice.ensures.items)
