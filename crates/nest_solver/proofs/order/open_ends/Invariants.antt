use Rattle.std.proofs.Common.{◌+◌, length}
use Rattle.nest_solver.specs.Nets.{entry}
use Rattle.nest_solver.specs.Orders.{IsOpening, arcs_of}
use Rattle.nest_solver.proofs.order.open_ends.Given as goal

abbrev pub invariant-loop-to : goal.invariant-loop-to
invariant-loop-to l =
    IsOpening (arcs_of l.net l.backs) l.order.items (entry l.place) (entry l.left) 0 (length l.net.arcs + 1) l.to 0 0
