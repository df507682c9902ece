-- Counts that meet the rows of places and of loop instances are at most their caps, taken as often as the run begins:
-- so feasible counts are at most their caps, and their value is at most the crude bound.
use Rattle.std.proofs.Common.{◌≡◌, ℕ, zero, suc, ◌-◌, ◌*◌, ◌≤◌, Bool, true, false, List, [], ◌∷◌, ◌++◌, length, drop, get_or, All, Option, Some, None, refl, sym, ap, ◌∙◌, subst, inl, inr, arith}
use Rattle.std.specs.Prelude.{◌==◌, if◌then◌else◌}
use Rattle.std.proofs.Math.Nat.{mul-le-mul_left}
use Rattle.std.proofs.lemmas.Bool.{cases_eq}
use Rattle.std.proofs.lemmas.Bool.Decides.{nat_tests}
use Rattle.std.proofs.lemmas.Int.{ints}
use Rattle.std.proofs.lemmas.List.Elements.{All-cons, All-head, All-nil, All-same, All-tail}
use lib.IntN.{ℤ, pos, ◌*ℤ◌}
use lib.Signed.{◌≤ℤ◌}
use Rattle.flow_net.specs.Nested.{IsNested}
use Rattle.flow_net.specs.Numbers.{item_at, IsNumberOf, IsNumberOrZero}
use Rattle.flow_net.specs.Visits.{target_of}
use Rattle.flow_net.specs.Scopes.{holds_of}
use Rattle.flow_net.specs.declared.net.LoopInst.{LoopInst}
use Rattle.flow_net.specs.declared.net.Net.{Net}
use Rattle.flow_net.specs.declared.net.NetArc.{NetArc}
use Rattle.flow_net.specs.declared.net.Place.{Place}
use Rattle.flow_net.proofs.Numbers.{item_at-all, item_at-there, item_at-within}
use Rattle.ipet_program.specs.Certificates.{cap_or_zero}
use Rattle.ipet_program.specs.Counts.{IsFeasible, IsMet, value_of}
use Rattle.ipet_program.specs.Leaves.{value_at}
use Rattle.ipet_program.specs.Programs.{arc_cap, arc_value, crude_limit, crude_of, IsProgramOf}
use Rattle.ipet_program.specs.Rows.{entry_row, goes_from, loop_row, loop_row_of, one_if, place_row, rows_of}
use Rattle.ipet_program.specs.Scopes.{turns_at}
use Rattle.ipet_program.specs.Sums.{numbered, sum_to}
use Rattle.ipet_program.specs.declared.program.Program.{Program}
use Rattle.ipet_program.proofs.Exchange.{IsColumn}
use Rattle.ipet_program.proofs.FlowSums.{flow, flow-kept, flow-same, into, marks-into, MeetsFlow, out_of}
use Rattle.ipet_program.proofs.Numbered.{item_at-numbered}
use Rattle.ipet_program.proofs.PlaceCaps.{place-capped}
use Rattle.ipet_program.proofs.RunCounts.{length-value, value_at-arc}
use Rattle.ipet_program.proofs.Terms.{row_sum-terms}
use Rattle.ipet_program.proofs.Totals.{total_to, total_to-one, total_to-order}
use Rattle.ipet_program.proofs.Values.{value_of-total}
use Rattle.ipet_program.proofs.Whole.{mul-order}

-- ---- Sums of numbers that aren't negative.
total_to-positive : (f : ℕ → ℤ) (n : ℕ) → ((j : ℕ) → pos 0 ≤ℤ f j) → pos 0 ≤ℤ total_to n f
total_to-positive f zero h = omega (arith, ints)
total_to-positive f (suc n) h =
    let rest = total_to-positive f n h in
    let last = h (suc n) in
    omega (arith, ints)

total_to-part : (f : ℕ → ℤ) (n j : ℕ) → ((k : ℕ) → pos 0 ≤ℤ f k) → 1 ≤ j → j ≤ n → f j ≤ℤ total_to n f
total_to-part f zero j h low high = absurd (omega arith)
total_to-part f (suc n) j h low high =
    elim (cases_eq j (suc n)) as (λ _. f j ≤ℤ total_to (suc n) f) [
      | inl same ↦
          let rest = total_to-positive f n h in
          let e : f j ≡ f (suc n) = ap f same in
          omega (arith, ints)
      | inr differ ↦
          let rest = total_to-part f n j h low (omega (arith, differ)) in
          let last = h (suc n) in
          omega (arith, ints)
    ]

total_to-pos : (f : ℕ → ℕ) (n : ℕ) → total_to n (λ q. pos (f q)) ≡ pos (sum_to n f)
total_to-pos f zero = refl
total_to-pos f (suc n) =
    let rest = total_to-pos f n in
    omega (arith, ints)

sum_to-part : (f : ℕ → ℕ) (n q : ℕ) → 1 ≤ q → q ≤ n → f q ≤ sum_to n f
sum_to-part f zero q low high = absurd (omega arith)
sum_to-part f (suc n) q low high =
    elim (cases_eq q (suc n)) as (λ _. f q ≤ sum_to (suc n) f) [
      | inl same ↦ omega (arith, ap f same)
      | inr differ ↦ omega (arith, sum_to-part f n q low (omega (arith, differ)))
    ]

-- ---- What the rows say.
pub All-front : {X : Type 0} (P : X → Type 0) (xs ys : List X) → All P (xs ++ ys) → All P xs
All-front P [] ys all = All-nil P
All-front P (x ∷ xs) ys all =
    All-cons P x xs (All-head P x (xs ++ ys) all) (All-front P xs ys (All-tail P x (xs ++ ys) all))

pub All-behind : {X : Type 0} (P : X → Type 0) (xs ys : List X) → All P (xs ++ ys) → All P ys
All-behind P [] ys all = all
All-behind P (x ∷ xs) ys all = All-behind P xs ys (All-tail P x (xs ++ ys) all)

All-at : {X : Type 0} (P : X → Type 0) (f : ℕ → X) (n number : ℕ) → All P (numbered f n) → 1 ≤ number →
    number ≤ n → P (f number)
All-at P f n number all low high =
    item_at-all P (numbered f n) number (f number) all (item_at-numbered f n number low high)

meets-flow : (net : Net) (counts : ℕ → ℕ) →
    All (IsMet counts)
    (numbered (place_row net.arcs) (length net.places) ++ numbered (loop_row net) (length net.loops)) →
    MeetsFlow net counts
meets-flow net counts all =
    let places = numbered (place_row net.arcs) (length net.places) in
    let loops = numbered (loop_row net) (length net.loops) in
    record {
      places = λ place number. All-at (IsMet counts) (place_row net.arcs) (length net.places) place
          (All-front (IsMet counts) places loops all) number.from_one number.within;
      loops = λ scope inst there.
          let number = item_at-within net.loops scope inst there in
          subst (λ (found : Option LoopInst). IsMet counts (loop_row_of net.arcs (holds_of net scope) found)) there
          (All-at (IsMet counts) (loop_row net) (length net.loops) scope
          (All-behind (IsMet counts) places loops all) number.from_one number.within);
    }

-- ---- Columns.
-- An arc is taken at most as often as its source is left.
taken-out : (net : Net) (counts : ℕ → ℕ) (j : ℕ) (arc : NetArc) → item_at j net.arcs ≡ Some arc →
    pos (counts j) ≤ℤ flow net counts (out_of net arc.from)
taken-out net counts j arc there =
    let number = item_at-within net.arcs j arc there in
    let e : (arc.from == arc.from) ≡ true = grind (arith, nat_tests) in
    let one : out_of net arc.from j ≡ pos 1 =
    ap (λ (found : Option NetArc). one_if (goes_from arc.from found)) there ∙ ap one_if e in
    let part = total_to-part (λ k. out_of net arc.from k *ℤ pos (counts k)) (length net.arcs) j
    (λ k. some-low (goes_from arc.from (item_at k net.arcs)) (counts k)) number.from_one number.within in
    let own : out_of net arc.from j *ℤ pos (counts j) ≡ pos 1 *ℤ pos (counts j) =
    ap (λ (z : ℤ). z *ℤ pos (counts j)) one in
    omega (arith, ints)
  where
    some-low : (test : Bool) (n : ℕ) → pos 0 ≤ℤ (one_if test *ℤ pos n)
    some-low true n = omega (arith, ints)
    some-low false n = omega (arith, ints)

cap-outside : (net : Net) (arc : NetArc) → arc.from ≡ 0 → arc_cap net (Some arc) ≡ 1
cap-outside net arc outside =
    let e : (arc.from == 0) ≡ true = grind (arith, nat_tests) in
    ap (λ (test : Bool). if test then 1 else turns_at net arc.from) e

cap-inside : (net : Net) (arc : NetArc) → (arc.from ≡ 0 → ⊥) →
    arc_cap net (Some arc) ≡ turns_at net arc.from
cap-inside net arc inside =
    let e : (arc.from == 0) ≡ false = grind (arith, nat_tests) in
    ap (λ (test : Bool). if test then 1 else turns_at net arc.from) e

module _ (net : Net) (price : ℕ → ℕ) (program : Program) (nested : IsNested net)
    (is : IsProgramOf net price program) (counts : ℕ → ℕ) where
  meets-of : All (IsMet counts) (drop 1 program.rows) → MeetsFlow net counts
  meets-of all =
      meets-flow net counts
      (All-same (IsMet counts)
      (numbered (place_row net.arcs) (length net.places) ++ numbered (loop_row net) (length net.loops))
      (drop 1 program.rows) (sym (ap (drop 1) is.rows)) all)

  out-capped : MeetsFlow net counts → (place : ℕ) → IsNumberOf net.places place →
      flow net counts (out_of net place) ≤ℤ pos (counts 1 * turns_at net place)
  out-capped meets place number =
      let d : Place = record { context = 0; address = 0; scope = 0 } in
      let kept = flow-kept net counts meets place number in
      let capped = place-capped net nested counts meets place (get_or net.places (place - 1) d)
      (item_at-there net.places place d number) in
      omega (arith, ints)

  arc-capped : MeetsFlow net counts → (j : ℕ) (arc : NetArc) → item_at j net.arcs ≡ Some arc →
      counts j ≤ counts 1 * arc_cap net (Some arc)
  arc-capped meets j arc there =
      elim (cases_eq arc.from 0) as (λ _. counts j ≤ counts 1 * arc_cap net (Some arc)) [
        | inl outside ↦
            let first = nested.entered.only j arc there outside in
            let cap = cap-outside net arc outside in
            let product : counts 1 * arc_cap net (Some arc) ≡ counts 1 * 1 = ap (λ (n : ℕ). counts 1 * n) cap in
            omega (arith, ap counts first, product)
        | inr inside ↦
            let within = item_at-all (λ (a : NetArc). IsNumberOrZero net.places a.from) net.arcs j arc
            nested.numbers.starts there in
            let taken = taken-out net counts j arc there in
            let capped = out-capped meets arc.from (record { from_one = omega (arith, inside); within = within }) in
            let cap = cap-inside net arc inside in
            let product : counts 1 * arc_cap net (Some arc) ≡ counts 1 * turns_at net arc.from =
            ap (λ (n : ℕ). counts 1 * n) cap in
            let most : pos (counts j) ≤ℤ pos (counts 1 * turns_at net arc.from) = omega (arith, ints, taken, capped) in
            omega (arith, ints, most, product)
      ]

  cap-column : (column : ℕ) → IsColumn (length net.arcs) column →
      cap_or_zero (item_at column program.caps) ≡ arc_cap net (item_at column net.arcs)
  cap-column column within =
      ap (λ (caps : List ℕ). cap_or_zero (item_at column caps)) is.caps
      ∙ ap cap_or_zero (item_at-numbered (λ j. arc_cap net (item_at j net.arcs)) (length net.arcs) column
      within.0 within.1)

  -- Counts that meet all rows but the entry's are at most their caps, taken as often as arc 1.
  pub columns-capped : All (IsMet counts) (drop 1 program.rows) → (column : ℕ) → 1 ≤ column →
      column ≤ program.columns → counts column ≤ counts 1 * cap_or_zero (item_at column program.caps)
  columns-capped all column low high =
      let inside : column ≤ length net.arcs = omega (arith, is.columns, high) in
      let d : NetArc = record { from = 0; to = 0 } in
      let arc = get_or net.arcs (column - 1) d in
      let there = item_at-there net.arcs column d (record { from_one = low; within = inside }) in
      let capped = arc-capped (meets-of all) column arc there in
      let cap : cap_or_zero (item_at column program.caps) ≡ arc_cap net (Some arc) =
      cap-column column (low, inside) ∙ ap (arc_cap net) there in
      let product : counts 1 * cap_or_zero (item_at column program.caps) ≡ counts 1 * arc_cap net (Some arc) =
      ap (λ (n : ℕ). counts 1 * n) cap in
      omega (arith, capped, product)

  rows-behind : IsFeasible program counts → All (IsMet counts) (drop 1 program.rows)
  rows-behind feasible =
      let entry = entry_row (length net.arcs) in
      let more = numbered (place_row net.arcs) (length net.places) ++ numbered (loop_row net) (length net.loops) in
      All-same (IsMet counts) (drop 1 program.rows) more (ap (drop 1) is.rows)
      (All-tail (IsMet counts) entry more
      (All-same (IsMet counts) (rows_of net) program.rows (sym is.rows) feasible))

  -- Feasible counts begin the run once.
  pub once : IsFeasible program counts → counts 1 ≡ 1
  once feasible =
      let entry = entry_row (length net.arcs) in
      let more = numbered (place_row net.arcs) (length net.places) ++ numbered (loop_row net) (length net.loops) in
      let met = All-head (IsMet counts) entry more
      (All-same (IsMet counts) (rows_of net) program.rows (sym is.rows) feasible) in
      let sum = row_sum-terms counts (λ column. one_if (column == 1)) (length net.arcs) in
      let number = item_at-within net.arcs 1 nested.entered.first.0 nested.entered.first.1 in
      let one = total_to-one (λ j. one_if (j == 1) *ℤ pos (counts j)) (length net.arcs) 1 number.from_one number.within
      (λ j differ.
      let e : (j == 1) ≡ false = grind (arith, nat_tests) in
      ap (λ (test : Bool). one_if test *ℤ pos (counts j)) e ∙ omega (arith, ints)) in
      let own : one_if (1 == 1) *ℤ pos (counts 1) ≡ pos (counts 1) = omega (arith, ints) in
      omega (arith, ints)

  -- Feasible counts are at most their caps.
  pub feasible-capped : IsFeasible program counts → (column : ℕ) → 1 ≤ column → column ≤ program.columns →
      counts column ≤ cap_or_zero (item_at column program.caps)
  feasible-capped feasible column low high =
      let capped = columns-capped (rows-behind feasible) column low high in
      let product : counts 1 * cap_or_zero (item_at column program.caps) ≡ 1 * cap_or_zero (item_at column program.caps) =
      ap (λ (n : ℕ). n * cap_or_zero (item_at column program.caps)) (once feasible) in
      omega (arith, capped, product)

  value-target : (found : Option NetArc) → arc_value price found ≡ pos (price (target_of found))
  value-target None = ap pos (sym is.outside)
  value-target (Some arc) = refl

  value-flow : value_of program counts ≡ flow net counts (λ j. pos (price (target_of (item_at j net.arcs))))
  value-flow =
      value_of-total program counts (length-value net price program is)
      ∙ ap (λ (n : ℕ). total_to n (λ j. value_at program j *ℤ pos (counts j))) is.columns
      ∙ flow-same net counts (value_at program) (λ j. pos (price (target_of (item_at j net.arcs))))
      (λ j low high. value_at-arc net price program is j (low, high) ∙ value-target (item_at j net.arcs))

  -- Their value is at most the crude bound.
  pub feasible-crude : IsFeasible program counts → value_of program counts ≤ℤ pos (crude_of net price)
  feasible-crude feasible =
      let meets = meets-of (rows-behind feasible) in
      let d : Place = record { context = 0; address = 0; scope = 0 } in
      let marks = marks-into net nested.numbers counts (λ q. pos (price q)) (ap pos is.outside) in
      let begun = once feasible in
      let order = total_to-order (λ q. pos (price q) *ℤ flow net counts (into net q))
      (λ q. pos (price q * turns_at net q)) (length net.places)
      (λ q low high.
      let capped = place-capped net nested counts meets q (get_or net.places (q - 1) d)
      (item_at-there net.places q d (record { from_one = low; within = high })) in
      let same : counts 1 * turns_at net q ≡ 1 * turns_at net q =
      ap (λ (n : ℕ). n * turns_at net q) begun in
      let most : flow net counts (into net q) ≤ℤ pos (turns_at net q) = omega (arith, ints, capped, same) in
      mul-order (pos (price q)) (flow net counts (into net q)) (pos (turns_at net q)) (omega (arith, ints)) most) in
      let sum = total_to-pos (λ q. price q * turns_at net q) (length net.places) in
      let value = value-flow in
      omega (arith, ints)

  cap-small : (found : Option NetArc) → ((arc : NetArc) → found ≡ Some arc → arc.from ≤ length net.places) →
      arc_cap net found ≤ crude_limit
  cap-small None within = omega arith
  cap-small (Some arc) within =
      elim (cases_eq arc.from 0) as (λ _. arc_cap net (Some arc) ≤ crude_limit) [
        | inl outside ↦ let cap = cap-outside net arc outside in omega (arith, cap)
        | inr inside ↦
            let number : IsNumberOf net.places arc.from =
            record { from_one = omega (arith, inside); within = within arc refl } in
            let part = sum_to-part (λ q. price q * turns_at net q) (length net.places) arc.from number.from_one
            number.within in
            let some : turns_at net arc.from * 1 ≤ turns_at net arc.from * price arc.from =
            mul-le-mul_left (turns_at net arc.from) (is.costly arc.from number) in
            let cap = cap-inside net arc inside in
            omega (arith, part, some, cap, is.low)
      ]

  -- They fit 63 bits.
  pub feasible-small : IsFeasible program counts → (column : ℕ) → 1 ≤ column → column ≤ program.columns →
      counts column ≤ crude_limit
  feasible-small feasible column low high =
      let inside : column ≤ length net.arcs = omega (arith, is.columns, high) in
      let capped = feasible-capped feasible column low high in
      let cap = cap-column column (low, inside) in
      let small = cap-small (item_at column net.arcs)
      (λ arc there. item_at-all (λ (a : NetArc). IsNumberOrZero net.places a.from) net.arcs column arc
      nested.numbers.starts there) in
      omega (arith, capped, cap, small)
