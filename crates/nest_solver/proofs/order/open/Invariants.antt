use Rattle.std.proofs.Common.{◌≡◌, ℕ, ◌<◌, ◌≤◌, length}
use Rattle.nest_solver.specs.Nets.{entry}
use Rattle.nest_solver.specs.Orders.{IsOpening, arcs_of}
use Rattle.nest_solver.proofs.order.open.Given as goal

abbrev pub invariant-loop-arc : goal.invariant-loop-arc
invariant-loop-arc l = record {
  within : l.arc ≤ length l.net.arcs;
  goes : 0 < l.arc → (arcs_of l.net l.backs).to l.arc ≡ l.to;
  onward : (left : ℕ → ℕ) (done first low : ℕ) → left l.to ≡ 0 → l.to < low →
      IsOpening (arcs_of l.net l.backs) l.initial.order.items (entry l.initial.place) left done first low l.to
      (entry l.arrivals.heads.items l.to) →
      IsOpening (arcs_of l.net l.backs) l.order.items (entry l.place) left done first low l.to l.arc;
}

abbrev pub decreases-loop-arc : goal.decreases-loop-arc
decreases-loop-arc l = l.arc
