-- The targets of each unit are known.
use Rattle.std.proofs.Common.{List, All, sym, subst, arith}
use Rattle.unit_graph.specs.declared.node.Unit.{Unit as Node}
use Rattle.call_contexts.specs.Counting.{IsKnown}
use Rattle.call_contexts.proofs.Calling.{read_all}
use Rattle.call_contexts.proofs.calls.calls_of.Goals as goal

pub add_calls-requires-clause-known : goal.add_calls-requires-clause-known
add_calls-requires-clause-known c =
    read_all (λ (node : Node). All (IsKnown c.args.graphs.now) node.calls) c.as_slice-unit-items.result.now c.loop-unit.unit-index c.unit-item.result
    (subst (λ (nodes : List Node). All (λ (node : Node). All (IsKnown c.args.graphs.now) node.calls) nodes) (sym c.as_slice-unit-items.ensures) c.requires.known)
    (omega (arith, c.loop-unit-test.true)) c.unit-item.is
