-- The places so far are looked at.
use Rattle.ipet_program.specs.Forward.{EachItem, IsForwardPlace}
use Rattle.ipet_program.proofs.forward.are_places.Given as goal

abbrev pub invariant-loop-index : goal.invariant-loop-index
invariant-loop-index l = EachItem (IsForwardPlace l.net) l.index l.net.places
