use Rattle.std.proofs.Common.{◌≡◌, ℕ, ◌<◌, length}
use Rattle.flow_net.specs.Numbers.{item_at}
use Rattle.flow_net.specs.Visits.{target_of}
use Rattle.nest_solver.specs.Nets.{entry}
use Rattle.nest_solver.proofs.arrivals.targets_of.Given as goal

abbrev pub invariant-loop-arc : goal.invariant-loop-arc
invariant-loop-arc l = record {
  count : length l.targets.items ≡ l.arc;
  told : (i : ℕ) → i < l.arc → entry l.targets.items i ≡ target_of (item_at i l.net.arcs);
}
