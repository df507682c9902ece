use Rattle.std.proofs.Common.{◌≡◌, drop}
use Rattle.std.specs.List.{list_any}
use Rattle.unit_graph.specs.declared.node.Unit.{Unit}
use Rattle.unit_graph.proofs.node.any_returns.Given as goal

abbrev pub invariant-loop-node : goal.invariant-loop-node
invariant-loop-node l =
    list_any (λ (node : Unit). node.returns) (drop l.node-index l.nodes)
    ≡ list_any (λ (node : Unit). node.returns) l.nodes
