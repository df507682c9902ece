-- The arcs so far have brought the outcome.
use Rattle.std.proofs.Common.{drop}
use Rattle.fixpoint.specs.Steps.{IsSpread}
use Rattle.fixpoint.proofs.solving.spread.Given as goal

abbrev pub invariant-loop-number : goal.invariant-loop-number
invariant-loop-number g l =
    IsSpread (λ x. g.D.Lattice.has x (g.T.Transfer.shape l.transfer)) g.D.Lattice.leq g.D.Widen.widened g.D.Height.rank
    g.D.Height.height (g.T.Transfer.moved l.transfer) l.arcs l.after l.numbers (drop l.number-index l.numbers)
    l.fn.values l.fn.waiting l.values l.waiting
