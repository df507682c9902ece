-- What listed multipliers give to a column and to the right side.
use Rattle.std.proofs.Common.{◌≡◌, ℕ, zero, suc, ◌+◌, ◌*◌, ◌^◌, ◌<◌, ◌≤◌, ◌==◌, List, [], ◌∷◌, ◌++◌, map, filter, flat_map, All, Some, refl, sym, ap, ap₂, ◌∙◌, subst, inl, inr, arith, nat_abs, FitsSigned, append-nil}
use Rattle.std.specs.Int.{w128}
use Rattle.std.proofs.lemmas.Bool.{cases_eq, cond-true, cond-false, eq-eqb, ne_eqb}
use Rattle.std.proofs.lemmas.Int.{ints, fits_signed_from_abs}
use Rattle.std.proofs.lemmas.Grind.{flat_map-append}
use Rattle.std.proofs.lemmas.List.Elements.{filter-append, All-append, All-nil, All-cons}
use lib.IntN.{ℤ, pos, negsuc, ◌+ℤ◌, ◌*ℤ◌}
use Rattle.ipet_program.specs.Leaves.{parts_in, total, FitFrom}
use Rattle.ipet_program.specs.Rows.{term_of, terms_of}
use Rattle.ipet_program.specs.Sums.{sum_to}
use Rattle.ipet_program.specs.declared.leaf.Weight.{Weight}
use Rattle.ipet_program.specs.declared.program.Row.{Row}
use Rattle.ipet_program.specs.declared.program.Term.{Term}
use Rattle.ipet_program.proofs.Exchange.{total-append}
use Rattle.ipet_program.proofs.Totals.{total_to}
use Rattle.nest_solver.specs.LeafWeights.{weight_at, weights_to}
use Rattle.nest_solver.specs.Shape.{IsUpTo}
use Rattle.nest_solver.proofs.Sums.{up_more, up_last}

-- ---- Sizes.
pub abs-sum : (a b : ℤ) → nat_abs (a +ℤ b) ≤ nat_abs a + nat_abs b
abs-sum a b = omega (arith, ints)

pub abs-product : (a b : ℤ) → nat_abs (a *ℤ b) ≡ nat_abs a * nat_abs b
abs-product (pos a) (pos b) = omega (arith, ints)
abs-product (pos a) (negsuc b) = omega (arith, ints)
abs-product (negsuc a) (pos b) = omega (arith, ints)
abs-product (negsuc a) (negsuc b) = omega (arith, ints)

-- The sizes of numbers together.
abbrev pub size : List ℤ → ℕ
size [] = 0
size (part ∷ more) = nat_abs part + size more

pub size-append : (parts others : List ℤ) → size (parts ++ others) ≡ size parts + size others
size-append [] others = omega arith
size-append (part ∷ parts) others = omega (arith, size-append parts others)

-- Numbers whose sizes together are small fit, and so do the sums of the first ones.
fits_small : (z : ℤ) → nat_abs z < 2 ^ 127 → FitsSigned w128 z
fits_small z h = fits_signed_from_abs w128 z h

pub fit-size : (sum : ℤ) (parts : List ℤ) → nat_abs sum + size parts < 2 ^ 127 → FitFrom sum parts
fit-size sum [] h = tt
fit-size sum (part ∷ more) h = (
  fits_small part (omega (arith, h)),
  fits_small (sum +ℤ part) (omega (arith, h, abs-sum sum part)),
  fit-size (sum +ℤ part) more (omega (arith, h, abs-sum sum part)),
)

-- ---- The parts of a row.
abbrev one_term : ℕ → ℤ → List Term
one_term column factor = record { column = column; factor = factor } ∷ []

other_term : (column j : ℕ) (z : ℤ) → (column ≡ j → ⊥) →
    filter (λ (term : Term). term.column == j) (one_term column z) ≡ []
other_term column j z n = cond-false {A = List Term} (column == j) (one_term column z) [] (ne_eqb column j n)

this_term : (column : ℕ) (z : ℤ) →
    filter (λ (term : Term). term.column == column) (one_term column z) ≡ one_term column z
this_term column z =
    cond-true {A = List Term} (column == column) (one_term column z) [] (eq-eqb column column refl)

filter_none : (column j : ℕ) (z : ℤ) → (column ≡ j → ⊥) →
    filter (λ (term : Term). term.column == j) (term_of column z) ≡ []
filter_none column j (pos zero) n = refl
filter_none column j (pos (suc a)) n = other_term column j (pos (suc a)) n
filter_none column j (negsuc a) n = other_term column j (negsuc a) n

filter_here : (column : ℕ) (z : ℤ) → filter (λ (term : Term). term.column == column) (term_of column z) ≡ term_of column z
filter_here column (pos zero) = refl
filter_here column (pos (suc a)) = this_term column (pos (suc a))
filter_here column (negsuc a) = this_term column (negsuc a)

filter_above : (factor : ℕ → ℤ) (n j : ℕ) → n < j →
    filter (λ (term : Term). term.column == j) (terms_of factor n) ≡ []
filter_above factor zero j less = refl
filter_above factor (suc n) j less =
    filter-append (λ (term : Term). term.column == j) (terms_of factor n) (term_of (suc n) (factor (suc n)))
    ∙ ap₂ (λ (a b : List Term). a ++ b) (filter_above factor n j (omega (arith, less)))
    (filter_none (suc n) j (factor (suc n)) (λ e. omega (arith, e, less)))

filter-terms : (factor : ℕ → ℤ) (n j : ℕ) → IsUpTo n j →
    filter (λ (term : Term). term.column == j) (terms_of factor n) ≡ term_of j (factor j)
filter-terms factor zero j u = absurd (omega (arith, u))
filter-terms factor (suc n) j u =
    filter-append (λ (term : Term). term.column == j) (terms_of factor n) (term_of (suc n) (factor (suc n)))
    ∙ elim (cases_eq j (suc n))
    as (λ _. filter (λ (term : Term). term.column == j) (terms_of factor n)
    ++ filter (λ (term : Term). term.column == j) (term_of (suc n) (factor (suc n))) ≡ term_of j (factor j)) [
      | inl e ↦ subst (λ (k : ℕ). filter (λ (term : Term). term.column == k) (terms_of factor n)
          ++ filter (λ (term : Term). term.column == k) (term_of (suc n) (factor (suc n))) ≡ term_of k (factor k))
          (sym e)
          (ap₂ (λ (a b : List Term). a ++ b) (filter_above factor n (suc n) (omega arith))
          (filter_here (suc n) (factor (suc n))))
      | inr differ ↦ ap₂ (λ (a b : List Term). a ++ b) (filter-terms factor n j (omega (arith, u, differ)))
          (filter_none (suc n) j (factor (suc n)) (λ e. differ (sym e)))
          ∙ append-nil (term_of j (factor j))
    ]

one_total : (times : ℤ) (column : ℕ) (z : ℤ) →
    total (map (λ (term : Term). times *ℤ term.factor) (term_of column z)) ≡ times *ℤ z
one_total times column (pos zero) = omega (arith, ints)
one_total times column (pos (suc a)) = omega (arith, ints)
one_total times column (negsuc a) = omega (arith, ints)

one_size : (times : ℤ) (column : ℕ) (z : ℤ) →
    size (map (λ (term : Term). times *ℤ term.factor) (term_of column z)) ≤ nat_abs (times *ℤ z)
one_size times column (pos zero) = omega arith
one_size times column (pos (suc a)) = omega arith
one_size times column (negsuc a) = omega arith

-- What a row that is written by its factors gives to a column.
pub terms-total : (times : ℤ) (factor : ℕ → ℤ) (n j : ℕ) (row : Row) → row.terms ≡ terms_of factor n → IsUpTo n j →
    total (parts_in j times (Some row)) ≡ times *ℤ factor j
terms-total times factor n j row is u =
    ap (λ (terms : List Term). total (map (λ (term : Term). times *ℤ term.factor) terms))
    (ap (filter (λ (term : Term). term.column == j)) is ∙ filter-terms factor n j u)
    ∙ one_total times j (factor j)

pub terms-size : (times : ℤ) (factor : ℕ → ℤ) (n j : ℕ) (row : Row) → row.terms ≡ terms_of factor n → IsUpTo n j →
    size (parts_in j times (Some row)) ≤ nat_abs (times *ℤ factor j)
terms-size times factor n j row is u =
    subst (λ (terms : List Term). size (map (λ (term : Term). times *ℤ term.factor) terms) ≤ nat_abs (times *ℤ factor j))
    (sym (ap (filter (λ (term : Term). term.column == j)) is ∙ filter-terms factor n j u))
    (one_size times j (factor j))

-- ---- The multipliers of the rows 1 to n.
flat_one : {A : Type 0} (f : Weight → List A) (weight : Weight) → flat_map f (weight ∷ []) ≡ f weight
flat_one f weight = append-nil (f weight)

abbrev weight_of_row : ℕ → ℤ → Weight
weight_of_row row times = record { row = row; times = times }

-- What one multiplier gives, also where it is 0 and isn't listed.
one_weight : (f : Weight → List ℤ) (row : ℕ) (times z : ℤ) → total (f (weight_of_row row times)) ≡ times *ℤ z →
    total (flat_map f (weight_at row times)) ≡ times *ℤ z
one_weight f row (pos zero) z e = omega (arith, ints)
one_weight f row (pos (suc a)) z e = ap total (flat_one f (weight_of_row row (pos (suc a)))) ∙ e
one_weight f row (negsuc a) z e = ap total (flat_one f (weight_of_row row (negsuc a))) ∙ e

pub weights-total : (f : Weight → List ℤ) (times factor : ℕ → ℤ) (n : ℕ) →
    ((row : ℕ) → IsUpTo n row → total (f (record { row = row; times = times row })) ≡ times row *ℤ factor row) →
    total (flat_map f (weights_to times n)) ≡ total_to n (λ row. times row *ℤ factor row)
weights-total f times factor zero h = refl
weights-total f times factor (suc n) h =
    ap total (flat_map-append f (weights_to times n) (weight_at (suc n) (times (suc n))))
    ∙ total-append (flat_map f (weights_to times n)) (flat_map f (weight_at (suc n) (times (suc n))))
    ∙ ap₂ (λ (a b : ℤ). a +ℤ b) (weights-total f times factor n (λ row u. h row (up_more n row u)))
    (one_weight f (suc n) (times (suc n)) (factor (suc n)) (h (suc n) (up_last n)))

one_weight_size : (f : Weight → List ℤ) (row : ℕ) (times : ℤ) (most : ℕ) → size (f (weight_of_row row times)) ≤ most →
    size (flat_map f (weight_at row times)) ≤ most
one_weight_size f row (pos zero) most h = omega arith
one_weight_size f row (pos (suc a)) most h =
    subst (λ (parts : List ℤ). size parts ≤ most) (sym (flat_one f (weight_of_row row (pos (suc a))))) h
one_weight_size f row (negsuc a) most h =
    subst (λ (parts : List ℤ). size parts ≤ most) (sym (flat_one f (weight_of_row row (negsuc a)))) h

pub weights-size : (f : Weight → List ℤ) (times : ℕ → ℤ) (most : ℕ → ℕ) (n : ℕ) →
    ((row : ℕ) → IsUpTo n row → size (f (record { row = row; times = times row })) ≤ most row) →
    size (flat_map f (weights_to times n)) ≤ sum_to n most
weights-size f times most zero h = omega arith
weights-size f times most (suc n) h =
    omega (
      arith,
      ap size (flat_map-append f (weights_to times n) (weight_at (suc n) (times (suc n)))),
      size-append (flat_map f (weights_to times n)) (flat_map f (weight_at (suc n) (times (suc n)))),
      weights-size f times most n (λ row u. h row (up_more n row u)),
      one_weight_size f (suc n) (times (suc n)) (most (suc n)) (h (suc n) (up_last n)),
    )

one_weight_all : (P : Weight → Type 0) (row : ℕ) (times : ℤ) → P (weight_of_row row times) → All P (weight_at row times)
one_weight_all P row (pos zero) h = All-nil P
one_weight_all P row (pos (suc a)) h = All-cons P (weight_of_row row (pos (suc a))) [] h (All-nil P)
one_weight_all P row (negsuc a) h = All-cons P (weight_of_row row (negsuc a)) [] h (All-nil P)

-- What holds of each multiplier holds of the listed ones.
pub weights-all : (P : Weight → Type 0) (times : ℕ → ℤ) (n : ℕ) →
    ((row : ℕ) → IsUpTo n row → P (record { row = row; times = times row })) → All P (weights_to times n)
weights-all P times zero h = All-nil P
weights-all P times (suc n) h =
    All-append P (weights_to times n) (weight_at (suc n) (times (suc n)))
    (weights-all P times n (λ row u. h row (up_more n row u)))
    (one_weight_all P (suc n) (times (suc n)) (h (suc n) (up_last n)))
