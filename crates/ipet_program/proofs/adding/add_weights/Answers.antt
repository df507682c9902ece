-- One more weight has been taken, or can't be.
use Rattle.std.proofs.Common.{pos, FitsSigned, arith, rules}
use Rattle.std.specs.Int.{w128}
use Rattle.std.proofs.lemmas.Int.{to_z-of_z}
use Rattle.ipet_program.proofs.WeightLemmas.{weight-may, weights-more}
use Rattle.ipet_program.proofs.adding.add_weights.Goals as goal

pub returns-in_default-clause-none : goal.returns-in_default-clause-none
returns-in_default-clause-none c =
    λ all. c.in_default.ensures.none
    (weight-may c.args.program.now c.args.cuts.now c.args.sums.now c.loop-weight.sums c.args.weights.now
    c.loop-weight.weight-index (record { row = 0; times = pos 0 }) _ (omega arith)
    c.loop-weight.invariant all)

pub loop-weight-preserved : goal.loop-weight-preserved
loop-weight-preserved c =
    let sum : FitsSigned w128 c.in-Some.sum = search rules in
    simp to_z-of_z
    (weights-more c.args.program.now c.args.cuts.now c.args.sums.now c.loop-weight.sums c.add_weight.new.sums
    c.args.weights.now c.loop-weight.weight-index (record { row = 0; times = pos 0 }) _
    c.in-Some.sum (omega arith) c.loop-weight.invariant c.in-Some.ensures.some)
