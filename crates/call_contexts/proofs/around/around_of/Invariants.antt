-- The loops so far are noted.
use Rattle.call_contexts.specs.Around.{AreNearest}
use Rattle.call_contexts.proofs.around.around_of.Given as goal

abbrev pub invariant-loop-position : goal.invariant-loop-position
invariant-loop-position l = AreNearest l.units l.loops l.position l.around.items
