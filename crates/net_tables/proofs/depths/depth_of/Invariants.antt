-- The loop instances around the scope so far are counted.
use Rattle.std.proofs.Common.{◌+◌, length}
use Rattle.flow_net.proofs.Chains.{around}
use Rattle.net_tables.proofs.Counting.{IsCounting}
use Rattle.net_tables.proofs.depths.depth_of.Given as goal

abbrev pub invariant-loop-around : goal.invariant-loop-around
invariant-loop-around l = IsCounting l.loops l.fn.scope l.around l.depth

abbrev pub decreases-loop-around : goal.decreases-loop-around
decreases-loop-around l = around l.loops (length l.loops + 1) l.around
