-- The places so far have their depths.
use Rattle.net_tables.proofs.Counting.{AreDepthsSoFar}
use Rattle.net_tables.proofs.depths.depths_of.Given as goal

abbrev pub invariant-loop-place : goal.invariant-loop-place
invariant-loop-place l = AreDepthsSoFar l.net.loops l.place-items l.place-index l.depths.items
