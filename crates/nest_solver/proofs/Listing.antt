-- Multipliers and counts listed one after the other.
use Rattle.std.proofs.Common.{◌≡◌, ℕ, suc, ◌+◌, ◌-◌, ◌≤◌, List, ◌++◌, ap, ◌∙◌, arith}
use Rattle.ipet_program.specs.declared.certificate.Count.{Count}
use Rattle.ipet_program.specs.declared.leaf.Weight.{Weight}
use Rattle.nest_solver.specs.Answers.{count_at, counts_to}
use Rattle.nest_solver.specs.LeafWeights.{weight_at, weights_to}
use lib.IntN.{ℤ}

pub weights-next : (times : ℕ → ℤ) (row : ℕ) (before after : List Weight) → 1 ≤ row →
    before ≡ weights_to times (row - 1) → after ≡ before ++ weight_at row (times row) →
    after ≡ weights_to times (row + 1 - 1)
weights-next times row before after some was is =
    is ∙ ap (λ (xs : List Weight). xs ++ weight_at row (times row)) was
    ∙ ap (λ (k : ℕ). weights_to times (row - 1) ++ weight_at k (times k)) (let e : row ≡ suc (row - 1) = omega (arith, some) in e)
    ∙ ap (weights_to times) (let e : suc (row - 1) ≡ row + 1 - 1 = omega (arith, some) in e)

pub counts-next : (counts : ℕ → ℕ) (column : ℕ) (before after : List Count) → 1 ≤ column →
    before ≡ counts_to counts (column - 1) → after ≡ before ++ count_at column (counts column) →
    after ≡ counts_to counts (column + 1 - 1)
counts-next counts column before after some was is =
    is ∙ ap (λ (xs : List Count). xs ++ count_at column (counts column)) was
    ∙ ap (λ (k : ℕ). counts_to counts (column - 1) ++ count_at k (counts k))
    (let e : column ≡ suc (column - 1) = omega (arith, some) in e)
    ∙ ap (counts_to counts) (let e : suc (column - 1) ≡ column + 1 - 1 = omega (arith, some) in e)
