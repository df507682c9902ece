-- The value of counts as a sum over the columns.
use Rattle.std.proofs.Common.{◌≡◌, ℕ, zero, suc, ◌+◌, List, [], ◌∷◌, length, slice_get, refl, ap, ◌∙◌, arith}
use Rattle.std.proofs.lemmas.Int.{ints}
use lib.IntN.{ℤ, pos, ◌+ℤ◌, ◌*ℤ◌}
use Rattle.ipet_program.specs.Counts.{value_from, value_of}
use Rattle.ipet_program.specs.Leaves.{value_at, value_or_zero}
use Rattle.ipet_program.specs.declared.program.Program.{Program}
use Rattle.ipet_program.proofs.Totals.{total_to}

-- The sum of what a function gives for n numbers from a number on.
abbrev pub from_total : ℕ → ℕ → (ℕ → ℤ) → ℤ
from_total start zero f = pos 0
from_total start (suc n) f = f start +ℤ from_total (suc start) n f

from_total-last : (start n : ℕ) (f : ℕ → ℤ) →
    from_total start (suc n) f ≡ from_total start n f +ℤ f (start + n)
from_total-last start zero f =
    let e : f (start + 0) ≡ f start = ap f (omega arith) in
    omega (arith, ints)
from_total-last start (suc n) f =
    let rest = from_total-last (suc start) n f in
    let e : f (start + suc n) ≡ f (suc start + n) = ap f (omega arith) in
    omega (arith, ints)

pub from_one : (n : ℕ) (f : ℕ → ℤ) → from_total 1 n f ≡ total_to n f
from_one zero f = refl
from_one (suc n) f =
    let last = from_total-last 1 n f in
    let rest = from_one n f in
    let e : f (1 + n) ≡ f (suc n) = ap f (omega arith) in
    omega (arith, ints)

pub value_from-total : (start : ℕ) (counts : ℕ → ℕ) (values : List ℤ) (g : ℕ → ℤ) →
    ((i : ℕ) → value_or_zero (slice_get values i) ≡ g (start + i)) →
    value_from start counts values ≡ from_total start (length values) (λ j. g j *ℤ pos (counts j))
value_from-total start counts [] g h = refl
value_from-total start counts (value ∷ more) g h =
    let rest = value_from-total (suc start) counts more g
    (λ i. h (suc i) ∙ ap g (omega arith)) in
    let e : value ≡ g start = h 0 ∙ ap g (omega arith) in
    let first : value *ℤ pos (counts start) ≡ g start *ℤ pos (counts start) =
    ap (λ (v : ℤ). v *ℤ pos (counts start)) e in
    omega (arith, ints)

-- The value of counts is the sum of each column's value times its count.
pub value_of-total : (program : Program) (counts : ℕ → ℕ) → length program.value ≡ program.columns →
    value_of program counts ≡ total_to program.columns (λ j. value_at program j *ℤ pos (counts j))
value_of-total program counts long =
    value_from-total 1 counts program.value (value_at program)
    (λ i. let e : suc i ≡ 1 + i = omega arith in ap (value_at program) e)
    ∙ from_one (length program.value) (λ j. value_at program j *ℤ pos (counts j))
    ∙ ap (λ (n : ℕ). total_to n (λ j. value_at program j *ℤ pos (counts j))) long
