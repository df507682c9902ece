use Rattle.std.proofs.Common.{◌-◌}
use Rattle.nest_solver.specs.Nets.{entry}
use Rattle.nest_solver.specs.Orders.{AreLeft}
use Rattle.nest_solver.proofs.arrivals.count_sources.Given as goal

abbrev pub invariant-loop-arc : goal.invariant-loop-arc
invariant-loop-arc l = AreLeft l.net (entry l.left) (l.arc - 1)
