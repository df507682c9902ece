use Rattle.std.proofs.Common.{◌≡◌, ℕ, ◌+◌, ◌<◌, length}
use Rattle.nest_solver.specs.Nets.{entry}
use Rattle.nest_solver.specs.Plain.{plain}
use Rattle.nest_solver.specs.Shape.{IsUpTo}
use Rattle.nest_solver.specs.Walks.{IsWalkable}
use Rattle.nest_solver.proofs.Following.{IsWalking}
use Rattle.nest_solver.proofs.walk.walk.Given as goal

abbrev pub invariant-loop-arc : goal.invariant-loop-arc
invariant-loop-arc l = record {
  count : length l.counts ≡ length l.net.arcs + 1;
  up : IsUpTo (length l.net.arcs) l.arc;
  walking : (walkable : IsWalkable (plain l.net l.tables) l.depth (entry l.choice) l.from l.often (entry l.fn.counts)) →
      (p : ℕ)
      × IsWalking (plain l.net l.tables) l.depth (entry l.choice) l.from l.often (entry l.fn.counts) (entry l.counts)
      l.arc p
      × (0 < walkable.best p);
}

abbrev pub decreases-loop-arc : goal.decreases-loop-arc
decreases-loop-arc l = entry l.tables.order.positions.items l.arc
