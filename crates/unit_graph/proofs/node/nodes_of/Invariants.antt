use Rattle.std.proofs.Common.{take}
use Rattle.std.specs.List.{AllZip}
use Rattle.unit_graph.specs.Graphs.{IsNodeAt}
use Rattle.unit_graph.specs.Inference.{AreReturning}
use Rattle.unit_graph.specs.Rows.{OfTheirImage}
use Rattle.unit_graph.proofs.node.nodes_of.Given as goal

abbrev pub invariant-loop-address : goal.invariant-loop-address
invariant-loop-address l = OfTheirImage l.rows (λ image entry.
    AreReturning image l.rows l.returning.keys → AllZip (IsNodeAt image) (take l.address-index l.addresses) l.nodes)
