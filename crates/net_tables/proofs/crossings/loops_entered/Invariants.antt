-- The arcs so far have the loop instances that they enter.
use Rattle.net_tables.proofs.Entered.{AreEnteredSoFar}
use Rattle.net_tables.proofs.crossings.loops_entered.Given as goal

abbrev pub invariant-loop-index : goal.invariant-loop-index
invariant-loop-index l = AreEnteredSoFar l.net l.index l.scopes.items
