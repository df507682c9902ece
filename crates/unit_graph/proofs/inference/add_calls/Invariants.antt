use Rattle.std.proofs.Common.{take}
use Rattle.unit_graph.specs.Inference.{Adds, IsCallRule}
use Rattle.unit_graph.proofs.inference.add_calls.Given as goal

abbrev pub invariant-loop-callee : goal.invariant-loop-callee
invariant-loop-callee l = Adds (IsCallRule l.address (take l.callee-index l.calls)) l.initial.rules.items l.rules.items
