-- The search in depth begins, and ends with a rank for each position.
use Rattle.std.proofs.Common.{◌≡◌, ℕ, ◌+◌, ◌*◌, ◌<◌, ◌≤◌, List, [], ◌∷◌, ◌++◌, length, set, replicate, zero, suc, sym, subst, ap, ◌∙◌, Some, arith, length-append, inl, inr, ◌⊎◌}
use Rattle.std.specs.Prelude.{slice_get}
use Rattle.std.proofs.Math.ListN.{length-set, length-replicate}
use Rattle.std.proofs.lemmas.Bool.{cases_eq, cases_lt}
use Rattle.std.proofs.lemmas.Option.{same_Some}
use Rattle.step_table.specs.Numbers.{number_of}
use Rattle.loop_nest.specs.Ranks.{AreLooked, AreRanks, IsPlaced, IsWalk, KeepsNumbers}
use Rattle.step_table.specs.Table.{AreMet, IsMet}
use Rattle.step_table.proofs.Seen.{alone}
use Rattle.step_table.proofs.Places.{number_none, number_other, number_outside, number_same, place_last, place_within, zeros, zeros_fewer, zeros_none}

-- The search begins with the entry on the trail.
pub walk_start : (table : List (List ℕ)) (entry : ℕ) (new trail : List ℕ) (top : ℕ) →
    entry < length table → new ≡ replicate (length table) 0 → top ≡ 2 * length table → trail ≡ entry ∷ [] →
    IsWalk table entry (set new entry top) 0 trail
walk_start table entry new trail top inside new_is top_is trail_is =
    subst (IsWalk table entry (set new entry top) 0) (sym trail_is) (record {
      sized = length-set new entry top ∙ sized;
      counted = omega (
        arith,
        zeros_fewer new entry top within (none entry) (omega (arith, top_is, inside)),
        ap zeros new_is,
        zeros_none (length table),
      );
      begun = omega (arith, is_top, top_is, inside);
      first = λ position h. same_Some entry position h;
      steps = λ place from to h k. absurd (omega (arith, place_within (entry ∷ []) (place + 1) to k));
      placed = placed_by;
      low = low_by;
      distinct = λ x y h e. entry_only x h ∙ sym (entry_only y (omega (arith, h, e)));
      high = λ x h. absurd (omega (arith, h.0, h.1));
      settled = λ x y h _. absurd (omega (arith, h.0, h.1));
    })
  where
    sized : length new ≡ length table
    sized = ap length new_is ∙ length-replicate (length table) 0

    within : entry < length new
    within = omega (arith, sized, inside)

    none : (x : ℕ) → number_of new x ≡ 0
    none x = ap (λ (xs : List ℕ). number_of xs x) new_is ∙ number_none (length table) x

    is_top : number_of (set new entry top) entry ≡ top
    is_top = number_same new entry top within

    zero_by : (x : ℕ) → (x ≡ entry → ⊥) → number_of (set new entry top) x ≡ 0
    zero_by x differ = number_other new entry top x differ ∙ none x

    entry_only : (x : ℕ) → 0 < number_of (set new entry top) x → x ≡ entry
    entry_only x h = elim (cases_eq x entry) [
      | inl e ↦ e
      | inr differ ↦ absurd (omega (arith, h, zero_by x differ))
    ]

    placed_by : (place position : ℕ) → slice_get (entry ∷ []) place ≡ Some position →
        number_of (set new entry top) position + place ≡ 2 * length table
    placed_by zero position h =
        omega (arith, is_top, top_is, ap (λ (at : ℕ). number_of (set new entry top) at) (same_Some entry position h))
    placed_by (suc place) position h = absurd (omega (arith, place_within (entry ∷ []) (suc place) position h))

    low_by : (x : ℕ) → (number_of (set new entry top) x ≤ 0) ⊎ IsPlaced (2 * length table) (set new entry top) (entry ∷ []) x
    low_by x = elim (cases_eq x entry) [
      | inl e ↦ inr (record {
        place = 0;
        there = ap (λ (at : ℕ). Some at) (sym e);
        number = omega (arith, is_top, top_is, ap (λ (at : ℕ). number_of (set new entry top) at) e);
      })
      | inr differ ↦ inl (omega (arith, zero_by x differ))
    ]

-- With nothing on the trail all positions have their ranks.
pub walk_end : (table : List (List ℕ)) (entry : ℕ) (numbers : List ℕ) (count : ℕ) (trail : List ℕ) →
    IsWalk table entry numbers count trail → trail ≡ [] → AreMet table entry →
    AreRanks table entry numbers
walk_end table entry numbers count trail full empty reached =
    record {
      count = walk.sized;
      bound = λ x. omega (arith, low x, walk.counted);
      ranked = λ x inside. positive x (reached x inside);
      distinct = walk.distinct;
      high = λ x inside. walk.high x (positive x (reached x inside), low x);
      settled = λ x y inside step. walk.settled x y (positive x (reached x inside), low x) step;
    }
  where
    walk : IsWalk table entry numbers count []
    walk = subst (IsWalk table entry numbers count) empty full

    low_by : (x : ℕ) → (number_of numbers x ≤ count) ⊎ IsPlaced (2 * length table) numbers [] x → number_of numbers x ≤ count
    low_by x (inl h) = h
    low_by x (inr p) = absurd (omega (arith, place_within [] p.place x p.there))

    low : (x : ℕ) → number_of numbers x ≤ count
    low x = low_by x (walk.low x)

    positive : (x : ℕ) → IsMet table (entry ∷ []) (length table) x → 0 < number_of numbers x
    positive _ (IsMet.begins start among free) =
        subst (λ (at : ℕ). 0 < number_of numbers at) (alone entry start among) walk.begun
    positive _ (IsMet.goes from to met step free) =
        (walk.settled from to (positive from met, low from) step).0

-- The last position of the trail is one of the table.
pub last_within : (table : List (List ℕ)) (entry : ℕ) (numbers : List ℕ) (count : ℕ) (rest : List ℕ)
    (last : ℕ) → IsWalk table entry numbers count (rest ++ last ∷ []) → last < length table
last_within table entry numbers count rest last walk = elim (cases_lt last (length table)) [
  | inl less ↦ less
  | inr more ↦ absurd (omega (
    arith,
    walk.placed (length rest) last (place_last rest last),
    number_outside numbers last (omega (arith, walk.sized, more)),
    walk.counted,
    length-append rest (last ∷ []),
  ))
]

-- At the start no step was looked at.
pub looked_start : (table : List (List ℕ)) (numbers looked : List ℕ) → looked ≡ replicate (length table) 0 →
    AreLooked table numbers looked
looked_start table numbers looked none = record {
  count = ap length none ∙ length-replicate (length table) 0;
  passed = λ x steps there i to here less.
      absurd (omega (arith, less, ap (λ (xs : List ℕ). number_of xs x) none ∙ number_none (length table) x));
}

-- What was looked at stays so while the search goes on.
pub looked_kept : (table : List (List ℕ)) (numbers later looked : List ℕ) → AreLooked table numbers looked →
    KeepsNumbers numbers later → AreLooked table later looked
looked_kept table numbers later looked are kept = record {
  count = are.count;
  passed = λ x steps there i to here less. kept to (are.passed x steps there i to here less);
}
