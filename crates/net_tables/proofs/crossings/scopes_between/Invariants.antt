-- The walk has come to a scope, past those that are listed.
use Rattle.std.proofs.Common.{◌+◌, length}
use Rattle.flow_net.proofs.Chains.{around}
use Rattle.net_tables.proofs.Leaving.{IsWalked}
use Rattle.net_tables.proofs.crossings.scopes_between.Given as goal

abbrev pub invariant-loop-scope : goal.invariant-loop-scope
invariant-loop-scope l = IsWalked l.loops l.fn.inner l.outer l.scope l.scopes

abbrev pub decreases-loop-scope : goal.decreases-loop-scope
decreases-loop-scope l = around l.loops (length l.loops + 1) l.scope
