-- The places of the called functions so far are added.
use Rattle.std.proofs.Common.{take}
use Rattle.call_contexts.specs.Arcs.{IsCallTo}
use Rattle.call_contexts.proofs.Appending.{AreAdded}
use Rattle.call_contexts.proofs.arcs.add_calls.Given as goal

abbrev pub invariant-loop-callee : goal.invariant-loop-callee
invariant-loop-callee l =
    AreAdded (IsCallTo l.graphs.graphs l.layout l.context l.unit.address) (take l.callee-index l.unit.calls) l.initial.targets.items
    l.targets.items
