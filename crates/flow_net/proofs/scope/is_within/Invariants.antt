-- The chain from the inner scope has come to a scope, from which it goes on as before.
use Rattle.std.proofs.Common.{◌+◌, length}
use Rattle.flow_net.proofs.Chains.{around, GoesOn}
use Rattle.flow_net.proofs.scope.is_within.Given as goal

abbrev pub invariant-loop-scope : goal.invariant-loop-scope
invariant-loop-scope l = GoesOn l.loops l.outer l.inner l.scope

abbrev pub decreases-loop-scope : goal.decreases-loop-scope
decreases-loop-scope l = around l.loops (length l.loops + 1) l.scope
