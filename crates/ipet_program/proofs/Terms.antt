-- The sum of a row that is written by its factors.
use Rattle.std.proofs.Common.{◌≡◌, ℕ, zero, suc, List, [], ◌∷◌, ◌++◌, refl, arith}
use Rattle.std.proofs.lemmas.Int.{ints}
use lib.IntN.{ℤ, pos, negsuc, ◌+ℤ◌, ◌*ℤ◌}
use Rattle.ipet_program.specs.Counts.{row_sum}
use Rattle.ipet_program.specs.Rows.{term_of, terms_of}
use Rattle.ipet_program.specs.declared.program.Term.{Term}
use Rattle.ipet_program.proofs.Totals.{total_to}

pub row_sum-append : (counts : ℕ → ℕ) (terms others : List Term) →
    row_sum counts (terms ++ others) ≡ row_sum counts terms +ℤ row_sum counts others
row_sum-append counts [] others = omega (arith, ints)
row_sum-append counts (term ∷ terms) others =
    let rest = row_sum-append counts terms others in
    omega (arith, ints)

-- A factor of 0 adds nothing, whether it has a term or not.
pub row_sum-term : (counts : ℕ → ℕ) (column : ℕ) (factor : ℤ) →
    row_sum counts (term_of column factor) ≡ factor *ℤ pos (counts column)
row_sum-term counts column (pos zero) = omega (arith, ints)
row_sum-term counts column (pos (suc n)) = omega (arith, ints)
row_sum-term counts column (negsuc n) = omega (arith, ints)

pub row_sum-terms : (counts : ℕ → ℕ) (factor : ℕ → ℤ) (n : ℕ) →
    row_sum counts (terms_of factor n) ≡ total_to n (λ j. factor j *ℤ pos (counts j))
row_sum-terms counts factor zero = refl
row_sum-terms counts factor (suc n) =
    let rest = row_sum-terms counts factor n in
    let last = row_sum-term counts (suc n) (factor (suc n)) in
    let sum = row_sum-append counts (terms_of factor n) (term_of (suc n) (factor (suc n))) in
    omega (arith, ints)
