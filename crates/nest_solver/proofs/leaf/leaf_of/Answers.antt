use Rattle.std.proofs.Common.{◌≡◌, ◌+◌, ◌<◌, All, AllPairs, length, sym, subst, refl}
use Rattle.ipet_program.specs.declared.leaf.Weight.{Weight}
use Rattle.nest_solver.specs.Nets.{entry}
use Rattle.nest_solver.specs.Values.{times_of}
use Rattle.nest_solver.proofs.Best.{weights-rising, weights-some}
use Rattle.nest_solver.proofs.leaf.leaf_of.Goals as goal
use lib.IntN.{pos}

pub invariant_of-result : goal.invariant_of-result
invariant_of-result c =
    let times = times_of c.args.places c.args.total (entry c.args.worths.now) (entry c.args.turns.now) in
    let rows = c.args.places + length c.args.turns.now in
    record {
      rising = subst (AllPairs (λ (weight other : Weight). weight.row < other.row)) (sym c.in_ok-weights.ensures.weights)
          (weights-rising times rows);
      some = subst (All (λ (weight : Weight). weight.times ≡ pos 0 → ⊥)) (sym c.in_ok-weights.ensures.weights)
          (weights-some times rows);
      one = λ e. refl;
    }
