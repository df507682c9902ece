use Rattle.std.proofs.Common.{take}
use Rattle.call_contexts.specs.Counting.{AreCalled, calls_in}
use Rattle.std.specs.List.{AllZip}
use Rattle.unit_graph.specs.declared.graph.Graph.{Graph}
use Rattle.call_contexts.proofs.calls.call_lists.Given as goal

abbrev pub invariant-loop-graph : goal.invariant-loop-graph
invariant-loop-graph l = AllZip (λ (graph : Graph). AreCalled l.graphs (calls_in graph)) (take l.graph-index l.graphs) l.lists.items
