-- Each turn lists the calls of one more graph.
use Rattle.std.proofs.Common.{◌<◌, All, length, arith}
use Rattle.unit_graph.specs.declared.graph.Graph.{Graph}
use Rattle.unit_graph.specs.declared.node.Unit.{Unit as Node}
use Rattle.call_contexts.specs.Counting.{AreCalled, IsKnown, calls_in}
use Rattle.call_contexts.proofs.Calling.{read_all, zip_next}
use Rattle.call_contexts.proofs.calls.call_lists.Goals as goal

pub calls_of-requires-clause-known : goal.calls_of-requires-clause-known
calls_of-requires-clause-known c =
    read_all (λ (graph : Graph). All (λ (node : Node). All (IsKnown c.args.graphs.now) node.calls) graph.units) c.args.graphs.now
    c.loop-graph.graph-index c.graph-item.result c.requires.known (omega (arith, c.loop-graph-test.true)) c.graph-item.is

pub loop-graph-preserved : goal.loop-graph-preserved
loop-graph-preserved c =
    let inside : c.loop-graph.graph-index < length c.args.graphs.now = omega (arith, c.loop-graph-test.true) in
    zip_next (λ (graph : Graph). AreCalled c.args.graphs.now (calls_in graph)) c.args.graphs.now c.loop-graph.graph-index c.graph-item.result
    inside c.graph-item.is c.loop-graph.lists.items c.in_ok-calls_of.field-0 c.push.new.self.items c.loop-graph.invariant
    c.in_ok-calls_of.ensures c.in_ok-push.ensures.items
