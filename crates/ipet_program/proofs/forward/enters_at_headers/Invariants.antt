-- The loop instances so far are looked at.
use Rattle.ipet_program.specs.Forward.{EachItem, EntersAt}
use Rattle.ipet_program.proofs.forward.enters_at_headers.Given as goal

abbrev pub invariant-loop-index : goal.invariant-loop-index
invariant-loop-index l = EachItem (EntersAt l.net l.arc) l.index l.net.loops
