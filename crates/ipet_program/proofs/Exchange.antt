-- Multipliers of rows: the sum over rows of what they sum to is the sum over columns of what these get.
use Rattle.std.proofs.Common.{◌≡◌, ℕ, ◌≤◌, Bool, true, false, cond, List, [], ◌∷◌, ◌++◌, map, All, Option, Some, None, refl, ap, ◌∙◌, arith}
use Rattle.std.specs.Prelude.{◌==◌, filter}
use Rattle.std.proofs.lemmas.Int.{ints}
use Rattle.std.proofs.lemmas.Bool.Decides.{nat_tests}
use Rattle.std.proofs.lemmas.List.Elements.{All-head, All-tail}
use Rattle.std.proofs.lemmas.List.Concat.{flat_map-cons}
use lib.IntN.{ℤ, pos, ◌+ℤ◌, ◌*ℤ◌}
use Rattle.flow_net.specs.Numbers.{item_at}
use Rattle.flow_net.proofs.Numbers.{item_at-all}
use Rattle.ipet_program.specs.Counts.{row_sum}
use Rattle.ipet_program.specs.Leaves.{column_parts, parts_in, total}
use Rattle.ipet_program.specs.declared.leaf.Weight.{Weight}
use Rattle.ipet_program.specs.declared.program.Row.{Row}
use Rattle.ipet_program.specs.declared.program.Term.{Term}
use Rattle.ipet_program.proofs.Whole.{mul-sum, sum-mul, mul-assoc}
use Rattle.ipet_program.proofs.Totals.{total_to, total_to-same, total_to-sum, total_to-none, total_to-one}

pub total-append : (parts others : List ℤ) → total (parts ++ others) ≡ total parts +ℤ total others
total-append [] others = omega (arith, ints)
total-append (part ∷ parts) others =
    let rest = total-append parts others in
    omega (arith, ints)

-- A part of a row that may be the column's.
abbrev one_part : (column : ℕ) → (times : ℤ) → Term → ℤ
one_part column times term = cond (term.column == column) (times *ℤ term.factor) (pos 0)

chosen-total : (test : Bool) (first : ℤ) (rest : List ℤ) →
    total (cond test (first ∷ rest) rest) ≡ cond test first (pos 0) +ℤ total rest
chosen-total true first rest = refl
chosen-total false first rest = omega (arith, ints)

map-chosen : (test : Bool) (f : Term → ℤ) (term : Term) (rest : List Term) →
    map f (cond test (term ∷ rest) rest) ≡ cond test (f term ∷ map f rest) (map f rest)
map-chosen true f term rest = refl
map-chosen false f term rest = refl

abbrev terms_part : ℕ → ℤ → List Term → ℤ
terms_part column times terms =
    total (map (λ (term : Term). times *ℤ term.factor) (filter (λ (term : Term). term.column == column) terms))

terms_part-cons : (column : ℕ) (times : ℤ) (term : Term) (more : List Term) →
    terms_part column times (term ∷ more) ≡ one_part column times term +ℤ terms_part column times more
terms_part-cons column times term more =
    ap total (map-chosen (term.column == column) (λ (t : Term). times *ℤ t.factor) term
    (filter (λ (t : Term). t.column == column) more))
    ∙ chosen-total (term.column == column) (times *ℤ term.factor)
    (map (λ (t : Term). times *ℤ t.factor) (filter (λ (t : Term). t.column == column) more))

-- The column's own part, and no other one.
one_part-own : (times : ℤ) (term : Term) → one_part term.column times term ≡ times *ℤ term.factor
one_part-own times term = grind (arith, nat_tests)

one_part-other : (times : ℤ) (term : Term) (column : ℕ) → (column ≡ term.column → ⊥) →
    one_part column times term ≡ pos 0
one_part-other times term column differ = grind (arith, nat_tests)

-- The columns of the terms are 1 to n.
abbrev pub IsColumn : ℕ → ℕ → Type 0
IsColumn n column = (1 ≤ column) × (column ≤ n)

abbrev pub AreColumns : ℕ → List Term → Type 0
AreColumns n terms = All (λ (term : Term). IsColumn n term.column) terms

-- What the terms give to the columns, each taken its count times, is the row's sum.
terms_exchange : (n : ℕ) (counts : ℕ → ℕ) (times : ℤ) (terms : List Term) → AreColumns n terms →
    total_to n (λ j. terms_part j times terms *ℤ pos (counts j)) ≡ times *ℤ row_sum counts terms
terms_exchange n counts times [] within =
    total_to-none (λ j. pos 0 *ℤ pos (counts j)) n (λ j low high. omega (arith, ints))
    ∙ omega (arith, ints)
terms_exchange n counts times (term ∷ more) within =
    let rest = terms_exchange n counts times more (All-tail (λ (t : Term). IsColumn n t.column) term more within) in
    let column : IsColumn n term.column = All-head (λ (t : Term). IsColumn n t.column) term more within in
    let apart : total_to n (λ j. terms_part j times (term ∷ more) *ℤ pos (counts j))
    ≡ total_to n (λ j. one_part j times term *ℤ pos (counts j) +ℤ terms_part j times more *ℤ pos (counts j)) =
    total_to-same _ _ n (λ j low high. ap (λ (z : ℤ). z *ℤ pos (counts j)) (terms_part-cons j times term more)
    ∙ sum-mul (pos (counts j)) (one_part j times term) (terms_part j times more)) in
    let sums = total_to-sum (λ j. one_part j times term *ℤ pos (counts j))
    (λ j. terms_part j times more *ℤ pos (counts j)) n in
    let one = total_to-one (λ j. one_part j times term *ℤ pos (counts j)) n term.column column.0 column.1
    (λ j differ. ap (λ (z : ℤ). z *ℤ pos (counts j)) (one_part-other times term j differ) ∙ omega (arith, ints)) in
    let own : one_part term.column times term *ℤ pos (counts term.column)
    ≡ times *ℤ (term.factor *ℤ pos (counts term.column)) =
    ap (λ (z : ℤ). z *ℤ pos (counts term.column)) (one_part-own times term)
    ∙ mul-assoc times term.factor (pos (counts term.column)) in
    let product = mul-sum times (term.factor *ℤ pos (counts term.column)) (row_sum counts more) in
    omega (arith, ints)

-- The sum of the row of a weight.
abbrev pub sum_at : (ℕ → ℕ) → Option Row → ℤ
sum_at counts None = pos 0
sum_at counts (Some row) = row_sum counts row.terms

-- What the rows sum to, each taken its weight times.
abbrev pub weighed : (ℕ → ℕ) → List Row → List Weight → ℤ
weighed counts rows [] = pos 0
weighed counts rows (weight ∷ more) =
    weight.times *ℤ sum_at counts (item_at weight.row rows) +ℤ weighed counts rows more

row_exchange : (n : ℕ) (counts : ℕ → ℕ) (times : ℤ) (found : Option Row) →
    ((row : Row) → found ≡ Some row → AreColumns n row.terms) →
    total_to n (λ j. total (parts_in j times found) *ℤ pos (counts j)) ≡ times *ℤ sum_at counts found
row_exchange n counts times None within =
    total_to-none (λ j. pos 0 *ℤ pos (counts j)) n (λ j low high. omega (arith, ints))
    ∙ omega (arith, ints)
row_exchange n counts times (Some row) within = terms_exchange n counts times row.terms (within row refl)

pub exchange : (n : ℕ) (counts : ℕ → ℕ) (rows : List Row) (weights : List Weight) →
    All (λ (row : Row). AreColumns n row.terms) rows →
    total_to n (λ j. total (column_parts rows weights j) *ℤ pos (counts j)) ≡ weighed counts rows weights
exchange n counts rows [] within =
    total_to-none (λ j. pos 0 *ℤ pos (counts j)) n (λ j low high. omega (arith, ints))
exchange n counts rows (weight ∷ more) within =
    let rest = exchange n counts rows more within in
    let parts = λ (j : ℕ). parts_in j weight.times (item_at weight.row rows) in
    let apart : total_to n (λ j. total (column_parts rows (weight ∷ more) j) *ℤ pos (counts j))
    ≡ total_to n (λ j. total (parts j) *ℤ pos (counts j) +ℤ total (column_parts rows more j) *ℤ pos (counts j)) =
    total_to-same _ _ n (λ j low high. ap (λ (z : ℤ). z *ℤ pos (counts j))
    (ap total (flat_map-cons (λ (w : Weight). parts_in j w.times (item_at w.row rows)) weight more)
    ∙ total-append (parts j) (column_parts rows more j))
    ∙ sum-mul (pos (counts j)) (total (parts j)) (total (column_parts rows more j))) in
    let sums = total_to-sum (λ j. total (parts j) *ℤ pos (counts j))
    (λ j. total (column_parts rows more j) *ℤ pos (counts j)) n in
    let one = row_exchange n counts weight.times (item_at weight.row rows)
    (λ row e. item_at-all (λ (r : Row). AreColumns n r.terms) rows weight.row row within e) in
    omega (arith, ints)
