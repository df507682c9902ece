-- What held at the start holds, and each turn leaves less to do.
use Rattle.std.specs.Prelude.{◌≡◌, ◌+◌, ◌*◌, length}
use Rattle.fixpoint.specs.Steps.{Holds, ranks_of, waiting}
use Rattle.fixpoint.proofs.solving.run.Given as goal

abbrev pub invariant-loop-place : goal.invariant-loop-place
invariant-loop-place g l = record {
  size : length l.values ≡ length l.fn.values;
  kept : (start : g.row.D.Denot) → g.D.Lattice.has start (g.T.Transfer.shape l.transfer) →
      Holds (λ x. g.D.Lattice.has x (g.T.Transfer.shape l.transfer)) g.D.Lattice.leq g.D.Widen.widened
      (g.T.Transfer.stepped l.transfer) (g.T.Transfer.moved l.transfer) l.arcs (length l.fn.values) start l.fn.values l.fn.waiting →
      Holds (λ x. g.D.Lattice.has x (g.T.Transfer.shape l.transfer)) g.D.Lattice.leq g.D.Widen.widened
      (g.T.Transfer.stepped l.transfer) (g.T.Transfer.moved l.transfer) l.arcs (length l.fn.values) start l.values l.waiting;
}

abbrev pub decreases-loop-place : goal.decreases-loop-place
decreases-loop-place g l = 2 * ranks_of g.D.Height.rank g.D.Height.height l.values + waiting l.waiting
