-- A table whose positions stand behind those to which their steps go has totals.
use Rattle.std.proofs.Common.{◌≡◌, ℕ, zero, suc, ◌+◌, ◌<◌, List, [], ◌∷◌, length, get_or, slice_get, All, Some, sum_by, refl, ap, subst, ◌∙◌, arith}
use Rattle.std.proofs.lemmas.List.Elements.{All-head, All-tail, Contains-get_or}
use Rattle.std.proofs.lemmas.List.Sums.{sum_by-cons}
use Rattle.std.proofs.lemmas.Option.{get_or_from_slice_get, slice_get-get_or, slice_get_within}
use Rattle.step_table.proofs.Meeting.{a_step}
use Rattle.step_table.proofs.Positions.{place_of}
use Rattle.step_table.specs.Numbers.{number_of}
use Rattle.call_contexts.specs.Counting.{AddsAlong, AreToldAll, IsFinished, IsToldFirst, StandsBefore, told_of}

-- Sums of terms that are equal.
pub sums_same : {T : Type 0} (f g : T → ℕ) (items : List T) → All (λ item. f item ≡ g item) items → sum_by f items ≡ sum_by g items
sums_same f g [] each = refl
sums_same f g (item ∷ items) each =
    let head : f item ≡ g item = All-head (λ x. f x ≡ g x) item items each in
    omega (arith, head, sum_by-cons f item items, sum_by-cons g item items, sums_same f g items (All-tail (λ x. f x ≡ g x) item items each))

abbrev steps_from : List (List ℕ) → ℕ → List ℕ
steps_from table position = get_or table position []

-- The sum of the numbers along all ways of so many steps.
abbrev tally : (table : List (List ℕ)) (own : List ℕ) (steps position : ℕ) → ℕ
tally table own zero position = 0
tally table own (suc steps) position = number_of own position + sum_by (tally table own steps) (steps_from table position)

-- A step from a position goes to an earlier one in the order.
step_behind : (table : List (List ℕ)) (order : List ℕ) → IsFinished table order → (place position k d : ℕ) → slice_get order place ≡ Some position →
    position < length table → k < length (steps_from table position) → StandsBefore order (get_or (steps_from table position) k d) place
step_behind table order finished place position k d at inside within =
    finished.behind place position (get_or (steps_from table position) k d) at
    (a_step table position (get_or (steps_from table position) k d) (steps_from table position) (slice_get-get_or table position [] inside)
    (Contains-get_or (steps_from table position) k d within))

-- The ways from a position are no longer than its place in the order.
tally_still : (table : List (List ℕ)) (own order : List ℕ) → IsFinished table order → (steps place position : ℕ) → slice_get order place ≡ Some position →
    place < steps → tally table own steps position ≡ tally table own (suc steps) position
tally_still table own order finished zero place position at less = absurd (omega (arith, less))
tally_still table own order finished (suc steps) place position at less =
    ap (λ (rest : ℕ). number_of own position + rest) (sums_same (tally table own steps) (tally table own (suc steps)) (steps_from table position)
    (λ k d within.
    let inside : position < length table = subst (λ (p : ℕ). p < length table) (get_or_from_slice_get order place position position at)
    (finished.within place position (slice_get_within order place position at)) in
    let stands = step_behind table order finished place position k d at inside within in
    tally_still table own order finished steps stands.earlier (get_or (steps_from table position) k d) stands.there (omega (arith, stands.before, less))))

pub total_of : (table : List (List ℕ)) (own order : List ℕ) → ℕ → ℕ
total_of table own order = tally table own (length order)

pub totals_add : (table : List (List ℕ)) (own order : List ℕ) → IsFinished table order → AddsAlong table own (total_of table own order)
unfolding total_of
totals_add table own order finished position first steps there self =
    let (place, at) = place_of order position (finished.whole position (slice_get_within table position steps there)) in
    tally_still table own order finished (length order) place position at (slice_get_within order place position at)
    ∙ ap (λ (one : ℕ). one + sum_by (tally table own (length order)) (steps_from table position)) (get_or_from_slice_get own position first 0 self)
    ∙ ap (λ (to : List ℕ). first + sum_by (tally table own (length order)) to) (get_or_from_slice_get table position steps [] there)

-- The first of the told totals.
pub told_first : (table : List (List ℕ)) (own order told : List ℕ) (value : ℕ) → IsFinished table order → AreToldAll table own told →
    0 < length table → value ≡ get_or told 0 value → IsToldFirst table own value
told_first table own order told value finished are some is = record {
  total = total_of table own order;
  adds = totals_add table own order finished;
  same = is ∙ get_or_from_slice_get told 0 (told_of (total_of table own order 0)) value (are (total_of table own order) (totals_add table own order finished) 0 some);
}
