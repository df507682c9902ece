-- The arcs so far are looked at.
use Rattle.ipet_program.specs.Forward.{EachItem, IsForwardArc}
use Rattle.ipet_program.proofs.forward.are_arcs.Given as goal

abbrev pub invariant-loop-index : goal.invariant-loop-index
invariant-loop-index l = EachItem (IsForwardArc l.net) l.index l.net.arcs
