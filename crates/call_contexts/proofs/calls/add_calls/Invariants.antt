use Rattle.std.proofs.Common.{◌++◌, List, map, take}
use Rattle.mips_decode.specs.Transfer.{Call}
use Rattle.call_contexts.specs.Counting.{AreCalled}
use Rattle.call_contexts.proofs.calls.add_calls.Given as goal

abbrev pub invariant-loop-target : goal.invariant-loop-target
invariant-loop-target l = (calls : List Call) → AreCalled l.graphs calls l.initial.called →
    AreCalled l.graphs (calls ++ map (λ callee. record { site = l.unit.address; target = callee }) (take l.target-index l.target-items)) l.called
