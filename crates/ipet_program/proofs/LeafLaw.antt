-- The law of a leaf: counts that are feasible and meet the cuts above it have at most the bound as their value.
use Rattle.std.proofs.Common.{◌≡◌, ℕ, ◌+◌, ◌≤◌, Bool, true, false, List, [], ◌∷◌, length, map, All, Option, Some, None, refl, ap, ◌∙◌, arith}
use Rattle.std.proofs.lemmas.Int.{by_lt_z, ints}
use Rattle.std.proofs.lemmas.List.Elements.{All-append, All-cons, All-head, All-map, All-nil, All-tail, All-weaker}
use Rattle.std.proofs.lemmas.List.Concat.{flat_map-cons}
use lib.IntN.{ℤ, pos, negsuc, ◌+ℤ◌, ◌*ℤ◌}
use lib.Signed.{◌≤ℤ◌}
use Rattle.flow_net.specs.Numbers.{item_at}
use Rattle.flow_net.proofs.Numbers.{item_at-all}
use Rattle.ipet_program.specs.Counts.{IsFeasible, IsMet, IsMetBy, row_sum, value_of}
use Rattle.ipet_program.specs.Leaves.{all_rows, column_parts, cut_row, cut_row_by, IsLeaf, IsSigned, right_part, right_parts, Shows, total, value_at}
use Rattle.ipet_program.specs.Programs.{IsCheckable, IsSmall, IsSmallRow}
use Rattle.ipet_program.specs.declared.leaf.Leaf.{Leaf}
use Rattle.ipet_program.specs.declared.leaf.Side2.{Side2}
use Rattle.ipet_program.specs.declared.leaf.Weight.{Weight}
use Rattle.ipet_program.specs.declared.program.Program.{Program}
use Rattle.ipet_program.specs.declared.program.Row.{Row}
use Rattle.ipet_program.specs.declared.program.Term.{Term}
use Rattle.ipet_program.proofs.Whole.{mul-assoc, mul-order, mul-order_left}
use Rattle.ipet_program.proofs.Totals.{total_to, total_to-none, total_to-order, total_to-same, total_to-scaled}
use Rattle.ipet_program.proofs.Values.{value_of-total}
use Rattle.ipet_program.proofs.Exchange.{AreColumns, exchange, IsColumn, sum_at, total-append, weighed}

-- A row that is met keeps its order when it is taken a number of times that its sign allows.
times-order : (equal : Bool) (times sum right : ℤ) → IsMetBy equal sum right →
    (equal ≡ false → pos 0 ≤ℤ times) → (times *ℤ sum) ≤ℤ (times *ℤ right)
times-order true times sum right met signed =
    let e : times *ℤ sum ≡ times *ℤ right = ap (λ (z : ℤ). times *ℤ z) met in
    omega (arith, ints)
times-order false times sum right met signed = mul-order times sum right (signed refl) met

part-order : (counts : ℕ → ℕ) (times : ℤ) (found : Option Row) →
    ((row : Row) → found ≡ Some row → IsMet counts row) → IsSigned times found →
    (times *ℤ sum_at counts found) ≤ℤ total (right_part times found)
part-order counts times None met signed = omega (arith, ints)
part-order counts times (Some row) met signed =
    let one = times-order row.equal times (row_sum counts row.terms) row.right (met row refl) signed in
    omega (arith, ints)

-- The rows that are met, each taken its weight times, sum to at most the right sides taken as often.
weighed-order : (counts : ℕ → ℕ) (rows : List Row) (weights : List Weight) → All (IsMet counts) rows →
    All (λ (weight : Weight). IsSigned weight.times (item_at weight.row rows)) weights →
    weighed counts rows weights ≤ℤ total (right_parts rows weights)
weighed-order counts rows [] met signed = omega (arith, ints)
weighed-order counts rows (weight ∷ more) met signed =
    let IsAllowed = λ (w : Weight). IsSigned w.times (item_at w.row rows) in
    let rest = weighed-order counts rows more met (All-tail IsAllowed weight more signed) in
    let one = part-order counts weight.times (item_at weight.row rows)
    (λ row e. item_at-all (IsMet counts) rows weight.row row met e) (All-head IsAllowed weight more signed) in
    let parts : total (right_parts rows (weight ∷ more))
    ≡ total (right_part weight.times (item_at weight.row rows)) +ℤ total (right_parts rows more) =
    ap total (flat_map-cons (λ (w : Weight). right_part w.times (item_at w.row rows)) weight more)
    ∙ total-append (right_part weight.times (item_at weight.row rows)) (right_parts rows more) in
    omega (arith, ints)

-- Counts that meet cuts of the program's columns.
pub record MeetsCuts (program : Program) (counts : ℕ → ℕ) (cuts : List Side2) : Type 0 where
  pub met : All (λ (cut : Side2). IsMet counts (cut_row cut)) cuts
  pub named : All (λ (cut : Side2). IsColumn program.columns cut.column) cuts

cut-columns : (n : ℕ) (upper : Bool) (column at : ℕ) → IsColumn n column →
    AreColumns n (cut_row_by upper column at).terms
cut-columns n true column at within =
    All-cons (λ (t : Term). IsColumn n t.column) (record { column = column; factor = pos 1 }) [] within
    (All-nil (λ (t : Term). IsColumn n t.column))
cut-columns n false column at within =
    All-cons (λ (t : Term). IsColumn n t.column) (record { column = column; factor = negsuc 0 }) [] within
    (All-nil (λ (t : Term). IsColumn n t.column))

-- The rows that a leaf may take have terms of the program's columns alone.
rows-columns : (program : Program) (counts : ℕ → ℕ) (cuts : List Side2) → IsCheckable program →
    MeetsCuts program counts cuts →
    All (λ (row : Row). AreColumns program.columns row.terms) (all_rows program cuts)
rows-columns program counts cuts checkable meets =
    let AreNamed = λ (row : Row). AreColumns program.columns row.terms in
    All-append AreNamed program.rows (map cut_row cuts)
    (All-weaker (IsSmallRow program.columns) AreNamed
    (λ row small. All-weaker
    (λ (t : Term). (1 ≤ t.column) × (t.column ≤ program.columns) × IsSmall t.factor)
    (λ (t : Term). IsColumn program.columns t.column)
    (λ term h. (h.0, h.1)) row.terms small.terms)
    program.rows checkable.rows)
    (All-map AreNamed cut_row cuts
    (All-weaker (λ (cut : Side2). IsColumn program.columns cut.column) (λ (cut : Side2). AreNamed (cut_row cut))
    (λ cut h. cut-columns program.columns cut.upper cut.column cut.at h) cuts meets.named))

-- What the columns get, each taken its count times, is at most the right side.
gains-order : (program : Program) (counts : ℕ → ℕ) (cuts : List Side2) (bound : ℕ) (leaf : Leaf) →
    IsCheckable program → IsFeasible program counts → MeetsCuts program counts cuts →
    IsLeaf program cuts bound leaf →
    total_to program.columns
    (λ j. total (column_parts (all_rows program cuts) leaf.weights j) *ℤ pos (counts j))
    ≤ℤ total (right_parts (all_rows program cuts) leaf.weights)
gains-order program counts cuts bound leaf checkable feasible meets valid =
    let rows = all_rows program cuts in
    let sums = exchange program.columns counts rows leaf.weights
    (rows-columns program counts cuts checkable meets) in
    let all_met : All (IsMet counts) rows =
    All-append (IsMet counts) program.rows (map cut_row cuts) feasible
    (All-map (IsMet counts) cut_row cuts meets.met) in
    let most = weighed-order counts rows leaf.weights all_met valid.keeps.signs in
    omega (arith, ints)

-- A denominator of at least 1 can be taken away.
lesser : (denom value sum : ℤ) (bound : ℕ) → pos 1 ≤ℤ denom → (denom *ℤ value) ≤ℤ sum →
    (sum +ℤ pos 1) ≤ℤ (denom *ℤ pos (bound + 1)) → value ≤ℤ pos bound
lesser denom value sum bound one most right =
    by_lt_z (pos bound) value
    (λ above. absurd (
    let h = mul-order denom (pos (bound + 1)) value (omega (arith, ints)) (omega (arith, ints)) in
    omega (arith, ints)
    ))
    (λ below. below)

pub record Keeps (program : Program) (counts : ℕ → ℕ) (bound : ℕ) (empty : Bool) : Type 0 where
  pub some : empty ≡ false
  pub value : value_of program counts ≤ℤ pos bound

shown : (program : Program) (counts : ℕ → ℕ) (rows : List Row) (bound : ℕ) (leaf : Leaf) (empty : Bool) →
    length program.value ≡ program.columns → pos 1 ≤ℤ leaf.denom → Shows empty program rows bound leaf →
    total_to program.columns (λ j. total (column_parts rows leaf.weights j) *ℤ pos (counts j))
    ≤ℤ total (right_parts rows leaf.weights) → Keeps program counts bound empty
shown program counts rows bound leaf false long denom shows most =
    let columns = total_to-order (λ j. (leaf.denom *ℤ value_at program j) *ℤ pos (counts j))
    (λ j. total (column_parts rows leaf.weights j) *ℤ pos (counts j)) program.columns
    (λ j low high. mul-order_left (counts j) (leaf.denom *ℤ value_at program j)
    (total (column_parts rows leaf.weights j)) (shows.columns j low high)) in
    let apart = total_to-same (λ j. (leaf.denom *ℤ value_at program j) *ℤ pos (counts j))
    (λ j. leaf.denom *ℤ (value_at program j *ℤ pos (counts j))) program.columns
    (λ j low high. mul-assoc leaf.denom (value_at program j) (pos (counts j))) in
    let scaled = total_to-scaled leaf.denom (λ j. value_at program j *ℤ pos (counts j)) program.columns in
    let value : leaf.denom *ℤ value_of program counts
    ≡ leaf.denom *ℤ total_to program.columns (λ j. value_at program j *ℤ pos (counts j)) =
    ap (λ (z : ℤ). leaf.denom *ℤ z) (value_of-total program counts long) in
    record {
      some = refl;
      value = lesser leaf.denom (value_of program counts) (total (right_parts rows leaf.weights)) bound denom
          (omega (arith, ints)) shows.right;
    }
shown program counts rows bound leaf true long denom shows most =
    let columns = total_to-order (λ j. pos 0 *ℤ pos (counts j))
    (λ j. total (column_parts rows leaf.weights j) *ℤ pos (counts j)) program.columns
    (λ j low high. mul-order_left (counts j) (pos 0) (total (column_parts rows leaf.weights j))
    (shows.columns j low high)) in
    let nothing = total_to-none (λ j. pos 0 *ℤ pos (counts j)) program.columns
    (λ j low high. omega (arith, ints)) in
    let right = shows.right in
    absurd (omega (arith, ints))

-- Under a valid leaf no counts are feasible and meet its cuts but those of a value of at most the bound, and
-- under one that shows that there are none there are none.
pub leaf-bound : (program : Program) (counts : ℕ → ℕ) (cuts : List Side2) (bound : ℕ) (leaf : Leaf) →
    IsCheckable program → IsFeasible program counts → MeetsCuts program counts cuts →
    IsLeaf program cuts bound leaf → Keeps program counts bound leaf.empty
leaf-bound program counts cuts bound leaf checkable feasible meets valid =
    shown program counts (all_rows program cuts) bound leaf leaf.empty checkable.value valid.keeps.denom valid.shows
    (gains-order program counts cuts bound leaf checkable feasible meets valid)
