use Rattle.std.proofs.Common.{◌≡◌, ◌-◌}
use Rattle.nest_solver.specs.LeafWeights.{weights_to}
use Rattle.nest_solver.specs.Nets.{entry}
use Rattle.nest_solver.specs.Values.{times_of}
use Rattle.nest_solver.proofs.leaf.weights_of.Given as goal

abbrev pub invariant-loop-row : goal.invariant-loop-row
invariant-loop-row l = l.weights ≡ weights_to (times_of l.places l.total (entry l.worths) (entry l.turns)) (l.row - 1)
