-- Each turn adds the call of one more target.
use Rattle.std.proofs.Common.{ℕ, ◌+◌, ◌++◌, List, All, map, take, sym, subst, arith}
use Rattle.call_contexts.specs.Counting.{AreCalled, IsKnown}
use Rattle.call_contexts.specs.declared.calls.Called.{Called}
use Rattle.call_contexts.proofs.Calling.{call_to, called_more}
use Rattle.call_contexts.proofs.calls.add_calls.Goals as goal

pub graph_at-requires-clause-known : goal.graph_at-requires-clause-known
graph_at-requires-clause-known c =
    subst (λ (ts : List ℕ). All (IsKnown c.args.graphs.now) ts) (sym c.as_slice-target-items.ensures) c.requires.known
    c.loop-target.target-index 0 (omega (arith, c.loop-target-test.true))

pub loop-target-preserved : goal.loop-target-preserved
loop-target-preserved c = λ calls are.
    let targets = c.as_slice-target-items.result.now in
    let more = called_more c.args.graphs.now calls c.args.unit.now.address targets c.loop-target.target-index
    c.loop-target.called c.graph_at.result (omega (arith, c.loop-target-test.true)) c.graph_at.ensures (c.loop-target.invariant calls are) in
    subst (λ (later : List Called). AreCalled c.args.graphs.now
    (calls ++ map (call_to c.args.unit.now.address) (take (c.loop-target.target-index + 1) targets)) later) (sym c.in_ok-push.ensures.ok) more
