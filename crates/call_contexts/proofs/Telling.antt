-- Sums of told numbers tell the sums.
use Rattle.std.proofs.Common.{◌≡◌, ℕ, ◌+◌, ◌<◌, ◌≤◌, ◌⊎◌, inl, inr, List, [], ◌∷◌, length, get_or, set, slice_get, All, Some, refl, sym, ap, subst, ◌∙◌, arith, sum_by}
use Rattle.std.proofs.lemmas.Bool.{cases_eq, cases_lt}
use Rattle.std.proofs.lemmas.List.Elements.{All-head, All-tail, Contains-get_or}
use Rattle.std.proofs.lemmas.List.Sums.{sum_by-cons}
use Rattle.std.proofs.lemmas.Option.{get_or_from_slice_get, same_Some, slice_get_within}
use Rattle.step_table.proofs.Meeting.{a_step}
use Rattle.step_table.proofs.Positions.{place_of}
use Rattle.step_table.proofs.Seen.{slice_get-set_other, slice_get-set_same}
use Rattle.step_table.specs.Numbers.{number_of}
use Rattle.call_contexts.specs.Counting.{AddsAlong, AreToldAll, IsFinished, told_of}

-- A told number does as well as the number in a sum that is told.
pub told_sum : (a b : ℕ) → told_of (told_of a + b) ≡ told_of (a + b)
told_sum a b = omega arith

told_sum_both : (a b c : ℕ) → told_of (a + (told_of b + c)) ≡ told_of (a + (b + c))
told_sum_both a b c = omega arith

-- The told numbers of positions tell their sum.
pub told_steps : (told : List ℕ) (total : ℕ → ℕ) (first : ℕ) (steps : List ℕ) → All (λ step. number_of told step ≡ told_of (total step)) steps →
    told_of (first + sum_by (number_of told) steps) ≡ told_of (first + sum_by total steps)
told_steps told total first [] each = refl
told_steps told total first (step ∷ steps) each =
    let head : number_of told step ≡ told_of (total step) = All-head (λ s. number_of told s ≡ told_of (total s)) step steps each in
    let one = sum_by-cons (number_of told) step steps in
    let other = sum_by-cons total step steps in
    let rest = told_steps told total (first + total step) steps (All-tail (λ s. number_of told s ≡ told_of (total s)) step steps each) in
    omega (arith, head, one, other, rest)

-- The positions of the front of an order have their told totals.
abbrev pub AreToldFront : (table : List (List ℕ)) (own order told : List ℕ) (count : ℕ) → Type 0
AreToldFront table own order told count = (total : ℕ → ℕ) → AddsAlong table own total → (i position : ℕ) → i < count →
    slice_get order i ≡ Some position → slice_get told position ≡ Some (told_of (total position))

-- The steps of the next position have theirs, so that its total is told by them.
front_steps : (table : List (List ℕ)) (own order told : List ℕ) (place position : ℕ) (steps : List ℕ) → IsFinished table order →
    AreToldFront table own order told place → slice_get order place ≡ Some position → slice_get table position ≡ Some steps →
    (total : ℕ → ℕ) → AddsAlong table own total → All (λ step. number_of told step ≡ told_of (total step)) steps
front_steps table own order told place position steps finished front at there total adds k d inside =
    let step = get_or steps k d in
    let before = finished.behind place position step at (a_step table position step steps there (Contains-get_or steps k d inside)) in
    get_or_from_slice_get told step (told_of (total step)) 0 (front total adds before.earlier step before.before before.there)

pub next_told : (table : List (List ℕ)) (own order told : List ℕ) (place position first : ℕ) (steps : List ℕ) → IsFinished table order →
    AreToldFront table own order told place → slice_get order place ≡ Some position → slice_get table position ≡ Some steps →
    slice_get own position ≡ Some first → (total : ℕ → ℕ) → AddsAlong table own total →
    told_of (first + sum_by (number_of told) steps) ≡ told_of (total position)
next_told table own order told place position first steps finished front at there self total adds =
    told_steps told total first steps (front_steps table own order told place position steps finished front at there total adds)
    ∙ ap told_of (sym (adds position first steps there self))

-- The front of an order with one more position, once its total is written.
pub front_more : (table : List (List ℕ)) (own order told : List ℕ) (place position first : ℕ) (steps : List ℕ) → IsFinished table order →
    AreToldFront table own order told place → slice_get order place ≡ Some position → slice_get table position ≡ Some steps →
    slice_get own position ≡ Some first → position < length told →
    AreToldFront table own order (set told position (told_of (first + sum_by (number_of told) steps))) (place + 1)
front_more table own order told place position first steps finished front at there self within total adds i other less listed =
    by_case (cases_eq position other) (cases_lt i place)
  where
    value : ℕ
    value = told_of (first + sum_by (number_of told) steps)

    at_position : slice_get (set told position value) position ≡ Some (told_of (total position))
    at_position = slice_get-set_same told position value within
        ∙ ap (λ (n : ℕ). Some n) (next_told table own order told place position first steps finished front at there self total adds)

    by_case : (position ≡ other) ⊎ (position ≡ other → ⊥) → (i < place) ⊎ (place ≤ i) → slice_get (set told position value) other ≡ Some (told_of (total other))
    by_case (inl same) _ = subst (λ (p : ℕ). slice_get (set told position value) p ≡ Some (told_of (total p))) same at_position
    by_case (inr differ) (inl l) = slice_get-set_other told position other value differ ∙ front total adds i other l listed
    by_case (inr differ) (inr m) =
        let here : i ≡ place = omega (arith, less, m) in
        absurd (differ (same_Some position other (sym at ∙ subst (λ (p : ℕ). slice_get order p ≡ Some other) here listed)))

-- At the end of the order all totals are told.
pub front_all : (table : List (List ℕ)) (own order told : List ℕ) → IsFinished table order → AreToldFront table own order told (length order) →
    AreToldAll table own told
front_all table own order told finished front total adds position inside =
    let (i, listed) = place_of order position (finished.whole position inside) in
    front total adds i position (slice_get_within order i position listed) listed
