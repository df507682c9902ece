use Rattle.std.proofs.Common.{take}
use Rattle.loop_nest.specs.Cycles.{AreForward}
use Rattle.loop_nest.proofs.irreducible.forward_steps.Given as goal

abbrev pub invariant-loop-to : goal.invariant-loop-to
invariant-loop-to l = AreForward l.backs (take l.to-index l.steps) l.list
