-- Adding the rows of weights, one behind another.
use Rattle.std.proofs.Common.{◌≡◌, ℕ, zero, suc, ◌+◌, ◌-◌, ◌≤◌, ◌<◌, List, [], ◌∷◌, ◌++◌, length, take, drop, get_or, map, slice_get, Option, Some, None, option_map, sym, ap, ◌∙◌, subst, arith}
use Rattle.std.specs.Prelude.{IfNone}
use Rattle.std.proofs.lemmas.Int.{ints}
use Rattle.std.proofs.lemmas.List.{append-nil, length-append, length-map, take-append-drop, take_more}
use Rattle.std.proofs.lemmas.List.Concat.{flat_map-append, flat_map-cons}
use Rattle.std.proofs.lemmas.Option.{slice_get-get_or, slice_get-map}
use lib.IntN.{ℤ, pos, ◌+ℤ◌}
use Rattle.flow_net.specs.Numbers.{item_at, IsNumberOf}
use Rattle.ipet_program.specs.Adding.{AreTaken, IsWeightTaken, MayTakeAll, MayTakeWeight, sum_in}
use Rattle.ipet_program.specs.Leaves.{all_rows, column_parts, cut_row, FitFrom, parts_in, right_part, right_parts, total}
use Rattle.ipet_program.specs.declared.leaf.Side2.{Side2}
use Rattle.ipet_program.specs.declared.leaf.Weight.{Weight}
use Rattle.ipet_program.specs.declared.program.Program.{Program}
use Rattle.ipet_program.specs.declared.program.Row.{Row}
use Rattle.ipet_program.proofs.Exchange.{total-append}
use Rattle.ipet_program.proofs.Numbered.{get-front}
use Rattle.ipet_program.proofs.SumLemmas.{Appends, fit-at, fit-behind, fit-front, fit-join, room-more}

-- ---- The row of a number.
get-behind : {T : Type 0} (xs ys : List T) (i : ℕ) → length xs ≤ i → slice_get (xs ++ ys) i ≡ slice_get ys (i - length xs)
get-behind [] ys i past = ap (slice_get ys) (omega arith)
get-behind (x ∷ xs) ys zero past = absurd (omega arith)
get-behind (x ∷ xs) ys (suc i) past =
    get-behind xs ys i (omega arith)
    ∙ (let e : i - length xs ≡ suc i - suc (length xs) = omega arith in ap (slice_get ys) e)

length-rows : (program : Program) (cuts : List Side2) →
    length (all_rows program cuts) ≡ length program.rows + length cuts
length-rows program cuts =
    let sum = length-append program.rows (map cut_row cuts) in
    let same = length-map cuts cut_row in
    omega arith

row-number : (program : Program) (cuts : List Side2) (number : ℕ) → 1 ≤ number →
    number ≤ length program.rows + length cuts → IsNumberOf (all_rows program cuts) number
row-number program cuts number low high =
    let long = length-rows program cuts in
    record { from_one = low; within = omega arith }

-- Behind the program's rows stand those of the cuts.
pub number-behind : (program : Program) (cuts : List Side2) (rows : List Row) (number : ℕ) → rows ≡ program.rows →
    IsNumberOf (all_rows program cuts) number → length rows ≤ number - 1 → number - 1 - length rows < length cuts
number-behind program cuts rows number same is past =
    let long = length-rows program cuts in
    let high = is.within in
    let low = is.from_one in
    let e = ap length same in
    omega arith

program-row : (program : Program) (cuts : List Side2) (number : ℕ) (d : Row) → 1 ≤ number →
    number - 1 < length program.rows →
    item_at number (all_rows program cuts) ≡ Some (get_or program.rows (number - 1) d)
program-row program cuts zero d low less = absurd (omega arith)
program-row program cuts (suc i) d low less =
    let e : suc i - 1 ≡ i = omega arith in
    get-front program.rows (map cut_row cuts) i (omega arith)
    ∙ slice_get-get_or program.rows i d (omega arith)
    ∙ ap (λ (at : ℕ). Some (get_or program.rows at d)) (sym e)

cut-row-at : (program : Program) (cuts : List Side2) (number : ℕ) (d : Side2) → 1 ≤ number →
    length program.rows ≤ number - 1 → number - 1 - length program.rows < length cuts →
    item_at number (all_rows program cuts) ≡ Some (cut_row (get_or cuts (number - 1 - length program.rows) d))
cut-row-at program cuts zero d low past less = absurd (omega arith)
cut-row-at program cuts (suc i) d low past less =
    let e : suc i - 1 - length program.rows ≡ i - length program.rows = omega arith in
    get-behind program.rows (map cut_row cuts) i (omega arith)
    ∙ slice_get-map cut_row cuts (i - length program.rows)
    ∙ ap (option_map cut_row) (slice_get-get_or cuts (i - length program.rows) d (omega arith))
    ∙ ap (λ (at : ℕ). Some (cut_row (get_or cuts at d))) (sym e)

-- The same of a list that is the program's rows.
pub program-row-in : (program : Program) (cuts : List Side2) (rows : List Row) (number : ℕ) (row : Row) →
    rows ≡ program.rows → 1 ≤ number → number - 1 < length rows → row ≡ get_or rows (number - 1) row →
    item_at number (all_rows program cuts) ≡ Some row
program-row-in program cuts rows number row same low less read =
    program-row program cuts number row low (subst (λ (rs : List Row). number - 1 < length rs) same less)
    ∙ ap Some (sym (read ∙ ap (λ (rs : List Row). get_or rs (number - 1) row) same))

pub cut-row-in : (program : Program) (cuts : List Side2) (rows : List Row) (number : ℕ) (d : Side2) →
    rows ≡ program.rows → 1 ≤ number → length rows ≤ number - 1 → number - 1 - length rows < length cuts →
    item_at number (all_rows program cuts) ≡ Some (cut_row (get_or cuts (number - 1 - length rows) d))
cut-row-in program cuts rows number d same low past less =
    subst (λ (rs : List Row). length rs ≤ number - 1 → number - 1 - length rs < length cuts →
    item_at number (all_rows program cuts) ≡ Some (cut_row (get_or cuts (number - 1 - length rs) d))) (sym same)
    (cut-row-at program cuts number d low) past less

pub number-in : (program : Program) (cuts : List Side2) (rows : List Row) (number : ℕ) → rows ≡ program.rows →
    1 ≤ number → number ≤ length rows + length cuts → IsNumberOf (all_rows program cuts) number
number-in program cuts rows number same low high =
    row-number program cuts number low (subst (λ (rs : List Row). number ≤ length rs + length cuts) same high)

-- What follows from what a clause says where there is nothing.
pub none-then : {X : Type 0} (r : Option X) {P Q : Type 0} → IfNone r P → (P → Q) → IfNone r Q
none-then None h then = then h
none-then (Some x) h then = h

-- ---- Weights.
abbrev row_parts : List Row → List Weight → ℕ → List ℤ
row_parts rows weights column = column_parts rows weights column

parts-append : (rows : List Row) → Appends (row_parts rows)
parts-append rows xs ys column =
    flat_map-append (λ (weight : Weight). parts_in column weight.times (item_at weight.row rows)) xs ys

right-append : (rows : List Row) (xs ys : List Weight) →
    right_parts rows (xs ++ ys) ≡ right_parts rows xs ++ right_parts rows ys
right-append rows xs ys = flat_map-append (λ (weight : Weight). right_part weight.times (item_at weight.row rows)) xs ys

one-weight : (rows : List Row) (weight : Weight) (column : ℕ) →
    column_parts rows (weight ∷ []) column ≡ parts_in column weight.times (item_at weight.row rows)
one-weight rows weight column =
    flat_map-cons (λ (w : Weight). parts_in column w.times (item_at w.row rows)) weight []
    ∙ append-nil (parts_in column weight.times (item_at weight.row rows))

one-right : (rows : List Row) (weight : Weight) →
    right_parts rows (weight ∷ []) ≡ right_part weight.times (item_at weight.row rows)
one-right rows weight =
    flat_map-cons (λ (w : Weight). right_part w.times (item_at w.row rows)) weight []
    ∙ append-nil (right_part weight.times (item_at weight.row rows))

right-more : (rows : List Row) (weights : List Weight) (i : ℕ) (d : Weight) → i < length weights →
    right_parts rows (take (i + 1) weights)
    ≡ right_parts rows (take i weights) ++ right_part (get_or weights i d).times (item_at (get_or weights i d).row rows)
right-more rows weights i d less =
    ap (right_parts rows) (take_more weights i d less)
    ∙ right-append rows (take i weights) (get_or weights i d ∷ [])
    ∙ ap (λ (parts : List ℤ). right_parts rows (take i weights) ++ parts) (one-right rows (get_or weights i d))

-- One more weight has been taken.
pub weights-more : (program : Program) (cuts : List Side2) (old middle new : List ℤ) (weights : List Weight)
    (i : ℕ) (d : Weight) (right sum : ℤ) → i < length weights →
    AreTaken program cuts old middle (pos 0) (take i weights) right →
    IsWeightTaken program cuts middle new right (get_or weights i d) sum →
    AreTaken program cuts old new (pos 0) (take (i + 1) weights) sum
weights-more program cuts old middle new weights i d right sum less before one =
    let rows = all_rows program cuts in
    let weight = get_or weights i d in
    let room = room-more (row_parts rows) (parts-append rows) program.columns old middle new weights i d less
    (record { fit = before.may.left; added = before.added })
    (record {
      fit = λ column low high. subst (FitFrom (sum_in middle column)) (sym (one-weight rows weight column))
          (one.may.left column low high);
      added = λ column low high.
          one.added column low high
          ∙ ap (λ (parts : List ℤ). sum_in middle column +ℤ total parts) (sym (one-weight rows weight column));
    }) in
    let more = right-more rows weights i d less in
    record {
      may = record {
        left = room.fit;
        other = subst (FitFrom (pos 0)) (sym more)
            (fit-join (pos 0) (right_parts rows (take i weights)) (right_part weight.times (item_at weight.row rows))
            before.may.other
            (subst (λ (z : ℤ). FitFrom z (right_part weight.times (item_at weight.row rows))) before.total_right
            one.may.other));
      };
      added = room.added;
      total_right =
          let a = before.total_right in
          let b = one.total_right in
          let parts = ap total more
          ∙ total-append (right_parts rows (take i weights)) (right_part weight.times (item_at weight.row rows)) in
          omega (arith, ints);
    }

-- Where all may be taken, so may the next one.
pub weight-may : (program : Program) (cuts : List Side2) (old middle : List ℤ) (weights : List Weight)
    (i : ℕ) (d : Weight) (right : ℤ) → i < length weights →
    AreTaken program cuts old middle (pos 0) (take i weights) right →
    MayTakeAll program cuts old (pos 0) weights → MayTakeWeight program cuts middle right (get_or weights i d)
weight-may program cuts old middle weights i d right less before all =
    let rows = all_rows program cuts in
    let weight = get_or weights i d in
    let left = fit-at (row_parts rows) (parts-append rows) program.columns old middle weights i d less
    (record { fit = before.may.left; added = before.added }) all.left in
    let split : right_parts rows weights
    ≡ right_parts rows (take (i + 1) weights) ++ right_parts rows (drop (i + 1) weights) =
    ap (right_parts rows) (sym (take-append-drop (i + 1) weights))
    ∙ right-append rows (take (i + 1) weights) (drop (i + 1) weights) in
    let front = subst (FitFrom (pos 0)) (right-more rows weights i d less)
    (fit-front (pos 0) (right_parts rows (take (i + 1) weights)) (right_parts rows (drop (i + 1) weights))
    (subst (FitFrom (pos 0)) split all.other)) in
    record {
      left = λ column low high. subst (FitFrom (sum_in middle column)) (one-weight rows weight column)
          (left column low high);
      other = subst (λ (z : ℤ). FitFrom z (right_part weight.times (item_at weight.row rows)))
          (sym before.total_right)
          (fit-behind (pos 0) (right_parts rows (take i weights)) (right_part weight.times (item_at weight.row rows))
          front);
    }
