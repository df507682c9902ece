-- The walk over candidates up to the first one without a bound.
use Rattle.std.proofs.Common.{◌≡◌, ℕ, ◌+◌, ◌≤◌, List, [], ◌∷◌, sym, ap, ◌∙◌, arith}
use Rattle.std.specs.Prelude.{max}
use Rattle.age_model.specs.Ages.{oldest}
use Rattle.age_model.specs.Candidates.{AreCandidates, blocks_of}
use Rattle.age_model.specs.declared.candidates.Candidates.{Candidates}

-- The greatest age of the blocks so far, of which the first one of the rest is one, and of the rest is that of all.
pub record IsWalk (age : ℕ → ℕ) (all rest : Candidates) (so_far : ℕ) : Type 0 where
  pub candidates : AreCandidates rest
  pub met : age rest.first ≤ so_far
  pub greatest : oldest age (blocks_of all) ≡ max so_far (oldest age (blocks_of rest))

-- No age exceeds the ways.
pub oldest-most : (age : ℕ → ℕ) (ways : ℕ) (blocks : List ℕ) → ((block : ℕ) → age block ≤ ways) → oldest age blocks ≤ ways
oldest-most age ways [] most = omega arith
oldest-most age ways (block ∷ blocks) most =
    let here = most block in
    let more = oldest-most age ways blocks most in
    omega (arith, here, more)

pub walk-begins : (age : ℕ → ℕ) (all : Candidates) → AreCandidates all → IsWalk age all all (age all.first)
walk-begins age all are = record { candidates = are; met = omega arith; greatest = omega arith }

pub walk-more : (age : ℕ → ℕ) (all rest more : Candidates) (so_far : ℕ) → IsWalk age all rest so_far → AreCandidates more →
    blocks_of rest ≡ rest.first ∷ blocks_of more → IsWalk age all more (max so_far (age more.first))
walk-more age all rest more so_far walk are is =
    let split : oldest age (blocks_of rest) ≡ max (age rest.first) (oldest age (blocks_of more)) = ap (oldest age) is in
    let met = walk.met in
    let greatest = walk.greatest in
    record {
      candidates = are;
      met = omega arith;
      greatest = omega (arith, greatest, split, met);
    }

pub walk-ends : (age : ℕ → ℕ) (all rest : Candidates) (so_far : ℕ) → IsWalk age all rest so_far →
    blocks_of rest ≡ rest.first ∷ [] → so_far ≡ oldest age (blocks_of all)
walk-ends age all rest so_far walk is =
    let last : oldest age (blocks_of rest) ≡ max (age rest.first) 0 = ap (oldest age) is in
    let met = walk.met in
    let greatest = walk.greatest in
    omega (arith, greatest, last, met)

pub walk-full : (age : ℕ → ℕ) (ways : ℕ) (all rest : Candidates) (so_far : ℕ) → ((block : ℕ) → age block ≤ ways) →
    IsWalk age all rest so_far → ways ≤ so_far → so_far ≤ ways → so_far ≡ oldest age (blocks_of all)
walk-full age ways all rest so_far most walk full fits =
    let top = oldest-most age ways (blocks_of rest) most in
    let greatest = walk.greatest in
    omega (arith, greatest, top, full, fits)
