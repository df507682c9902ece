use Rattle.nest_solver.specs.Bases.{AreLatest}
use Rattle.nest_solver.specs.Nets.{entry}
use Rattle.nest_solver.specs.Orders.{arcs_of}
use Rattle.nest_solver.proofs.base.note_latest.Given as goal

abbrev pub invariant-loop-at : goal.invariant-loop-at
invariant-loop-at l =
    AreLatest (arcs_of l.net l.tables.backs.items) (entry l.tables.order.positions.items) (entry l.latest) l.at
