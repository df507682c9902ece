use Rattle.std.proofs.Common.{take}
use Rattle.unit_graph.specs.Flow.{SomeReturns}
use Rattle.unit_graph.proofs.flow.some_returns.Given as goal

abbrev pub invariant-loop-callee : goal.invariant-loop-callee
invariant-loop-callee l = SomeReturns l.returning.keys (take l.callee-index l.calls) → ⊥
