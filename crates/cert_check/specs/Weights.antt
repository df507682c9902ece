-- The multipliers that a leaf may have.
use Rattle.std.specs.Prelude.{◌≡◌, ◌<◌, pos, List, All, AllPairs}
use Rattle.std.specs.List.{AllByRecursion}
use Rattle.ipet_program.specs.declared.leaf.Weight.{Weight}
use Rattle.cert_check.specs.Lines.{FitsWeight}

-- Their numbers fit, their rows rise, and none of them is 0.
pub record AreWeights (weights : List Weight) : Type 0 where
  pub fit : AllByRecursion FitsWeight weights
  pub rising : AllPairs (λ weight other. weight.row < other.row) weights
  pub some : All (λ weight. weight.times ≡ pos 0 → ⊥) weights
