use Rattle.std.proofs.Common.{◌≤◌, ap, inl, inr, arith}
use Rattle.std.proofs.lemmas.Bool.{cases_eq}
use Rattle.nest_solver.specs.Nets.{entry}
use Rattle.nest_solver.proofs.values.deepest_of.Goals as goal

pub loop-depth-preserved : goal.loop-depth-preserved
loop-depth-preserved c = record {
  most = λ k low. elim (cases_eq k c.loop-depth.depth-index) as (λ _. entry c.args.depths.now k ≤ c.deeper-most.result) [
    | inl e ↦ omega (arith, ap (entry c.args.depths.now) e, c.deeper-most.ensures.beyond)
    | inr differ ↦ omega (arith, c.loop-depth.invariant.most k (omega (arith, low, differ)), c.deeper-most.ensures.above)
  ];
  least = λ bound all. c.deeper-most.ensures.least bound (c.loop-depth.invariant.least bound all)
      (all c.loop-depth.depth-index);
}
