-- The arcs so far are lawful.
use Rattle.fixpoint.specs.Upward.{EachItem, IsArc}
use Rattle.fixpoint.proofs.upward.are_arcs.Given as goal

abbrev pub invariant-loop-index : goal.invariant-loop-index
invariant-loop-index l = EachItem (IsArc l.places) l.index l.arcs
