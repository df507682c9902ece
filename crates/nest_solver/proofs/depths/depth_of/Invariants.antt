use Rattle.nest_solver.proofs.Deeps.{HasCome, all_round}
use Rattle.nest_solver.proofs.depths.depth_of.Given as goal

abbrev pub invariant-loop-scope : goal.invariant-loop-scope
invariant-loop-scope l = HasCome l.net.loops l.inner l.scope l.depth

abbrev pub decreases-loop-scope : goal.decreases-loop-scope
decreases-loop-scope l = all_round l.net.loops l.scope
