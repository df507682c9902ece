use Rattle.std.proofs.Common.{◌+◌, ◌-◌, length}
use Rattle.nest_solver.specs.Nets.{entry}
use Rattle.nest_solver.specs.Orders.{IsOpening, arcs_of}
use Rattle.nest_solver.proofs.order.take_all.Given as goal

abbrev pub invariant-loop-at : goal.invariant-loop-at
invariant-loop-at l =
    IsOpening (arcs_of l.net l.backs) l.order.items (entry l.place) (entry l.left) l.at (length l.net.arcs + 1)
    (length l.net.places + 1) 0 0

abbrev pub decreases-loop-at : goal.decreases-loop-at
decreases-loop-at l = length l.net.arcs - l.at
