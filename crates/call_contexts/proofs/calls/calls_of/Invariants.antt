use Rattle.std.proofs.Common.{take}
use Rattle.std.specs.List.{flat_map}
use Rattle.call_contexts.specs.Counting.{AreCalled, calls_at}
use Rattle.call_contexts.proofs.calls.calls_of.Given as goal

abbrev pub invariant-loop-unit : goal.invariant-loop-unit
invariant-loop-unit l = AreCalled l.graphs (flat_map calls_at (take l.unit-index l.unit-items)) l.called
