-- The loops so far are looked at.
use Rattle.ipet_program.specs.Forward.{EachItem, IsForwardLoop}
use Rattle.ipet_program.proofs.forward.are_loops.Given as goal

abbrev pub invariant-loop-index : goal.invariant-loop-index
invariant-loop-index l = EachItem (IsForwardLoop l.net) l.index l.net.loops
