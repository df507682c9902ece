-- The arcs so far have the scopes that they leave.
use Rattle.net_tables.proofs.Leaving.{AreLeftSoFar}
use Rattle.net_tables.proofs.crossings.scopes_left.Given as goal

abbrev pub invariant-loop-index : goal.invariant-loop-index
invariant-loop-index l = AreLeftSoFar l.net l.index l.lists.items
