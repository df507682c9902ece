use Rattle.std.proofs.Common.{◌++◌, ◌∙◌, ap}
use Rattle.std.proofs.lemmas.Int.{to_z-of_z}
use Rattle.std.specs.Int.{w128}
use Rattle.nest_solver.specs.LeafWeights.{weight_at}
use Rattle.nest_solver.specs.Nets.{entry}
use Rattle.nest_solver.specs.Values.{times_of}
use Rattle.nest_solver.proofs.Listing.{weights-next}
use Rattle.nest_solver.proofs.leaf.weights_of.Goals as goal
use lib.IntN.{ℤ}

pub loop-row-preserved : goal.loop-row-preserved
loop-row-preserved c =
    weights-next (times_of c.args.places c.args.total (entry c.args.worths.now) (entry c.args.turns.now)) c.loop-row.row
    c.loop-row.weights c.list.new.weights c.loop-row.auto.row c.loop-row.invariant
    (c.in_ok-list.ensures.listed
    ∙ ap (λ (times : ℤ). c.loop-row.weights ++ weight_at c.loop-row.row times)
    (to_z-of_z w128 c.times.result c.times.ensures.fits ∙ c.times.ensures.times))
