use Rattle.std.proofs.Common.{ℕ}
use Rattle.nest_solver.specs.Nets.{entry}
use Rattle.nest_solver.specs.Orders.{IsOpening, arcs_of}
use Rattle.nest_solver.proofs.order.put_backs.Given as goal

abbrev pub invariant-loop-arc : goal.invariant-loop-arc
invariant-loop-arc l = (left : ℕ → ℕ) →
    IsOpening (arcs_of l.net l.backs) l.initial.order.items (entry l.initial.place) left 0 1 0 0 0 →
    IsOpening (arcs_of l.net l.backs) l.order.items (entry l.place) left 0 l.arc 0 0 0
