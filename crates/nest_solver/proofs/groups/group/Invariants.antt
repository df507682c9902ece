use Rattle.nest_solver.specs.Groups.{AreGrouped}
use Rattle.nest_solver.specs.Nets.{entry}
use Rattle.nest_solver.proofs.groups.group.Given as goal

abbrev pub invariant-loop-number : goal.invariant-loop-number
invariant-loop-number l = AreGrouped (entry l.keys) l.number (entry l.first) (entry l.next)
