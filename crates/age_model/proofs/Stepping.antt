-- The candidates after the first one.
use Rattle.std.proofs.Common.{◌≡◌, ℕ, zero, suc, ◌+◌, ◌-◌, ◌<◌, ◌≤◌, List, [], ◌∷◌, refl, sym, ap, ◌∙◌, arith}
use Rattle.std.specs.Prelude.{◌/◌}
use Rattle.std.proofs.Math.Nat.{div-eq-sub-div, div-eq_of_lt}
use Rattle.age_model.specs.Candidates.{blocks_from, blocks_of}
use Rattle.age_model.specs.declared.candidates.Candidates.{Candidates}

pub one-block : (first last step : ℕ) → last - first < step →
    blocks_from first step (suc ((last - first) / step)) ≡ first ∷ []
one-block first last step short =
    ap (λ (n : ℕ). blocks_from first step (suc n)) (div-eq_of_lt short)

pub more-blocks : (first last step : ℕ) → 0 < step → step ≤ last - first →
    blocks_from first step (suc ((last - first) / step)) ≡
    first ∷ blocks_from (first + step) step (suc ((last - (first + step)) / step))
more-blocks first last step apart more =
    let count : (last - first) / step ≡ (last - first - step) / step + 1 = div-eq-sub-div apart more in
    let less : last - first - step ≡ last - (first + step) = omega arith in
    let equal : (last - first) / step ≡ suc ((last - (first + step)) / step) =
    count ∙ ap (λ (n : ℕ). n / step + 1) less ∙ omega arith in
    ap (λ (n : ℕ). blocks_from first step (suc n)) equal
