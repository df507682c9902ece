-- How the list of the positions to which steps lead grows, and that it has all of them at its end.
use Rattle.std.proofs.Common.{◌≡◌, ℕ, ◌+◌, ◌<◌, All, Bool, true, List, [], length, get_or, sym, subst, ◌∙◌, Some, arith, inl, inr}
use Rattle.std.specs.Prelude.{Contains, slice_get}
use Rattle.std.proofs.lemmas.Bool.{cases_eq}
use Rattle.std.proofs.lemmas.Option.{same_Some, slice_get-get_or, slice_get_within}
use Rattle.std.proofs.lemmas.List.Elements.{Contains-get_or}
use Rattle.step_table.specs.Listing.{AreUnmarked, IsListed, ListsMet, ListsSeen}
use Rattle.step_table.specs.Search.{AreApart, IsPassed, IsSeen, Sees}
use Rattle.step_table.specs.Table.{IsMet}
use Rattle.step_table.proofs.Meeting.{a_step, nothing, step_among}
use Rattle.step_table.proofs.Positions.{contains_at, place_of}

pub none_apart : (list : List ℕ) → list ≡ [] → AreApart list
none_apart list e = subst AreApart (sym e) (λ i j d less within. absurd (omega (arith, within)))

-- At the start the starts are listed.
pub listed_start : (table : List (List ℕ)) (starts : List ℕ) (barred : ℕ) (none : List Bool) (nobody : List ℕ)
    (seen : List Bool) (list : List ℕ) → AreUnmarked (length table) none → nobody ≡ [] →
    Sees starts barred none nobody seen list → IsListed table starts barred seen list 0
listed_start table starts barred none nobody seen list unmarked empty sees = record {
  sized = sees.count ∙ unmarked.sized;
  begun = sees.there;
  sound = λ x h. elim (sees.only x h) as (λ _. IsMet table starts barred x) [
    | inl p ↦ absurd (unmarked.none x p)
    | inr q ↦ IsMet.begins x q.0 q.1
  ];
  known = λ x h. elim (sees.known x h) as (λ _. IsSeen seen x) [
    | inl p ↦ absurd (nothing nobody x empty p)
    | inr q ↦ q
  ];
  listed = λ x h. elim (sees.new x h) as (λ _. Contains list x) [
    | inl p ↦ absurd (unmarked.none x p)
    | inr q ↦ q
  ];
  apart = sees.apart (λ x h. absurd (nothing nobody x empty h)) (none_apart nobody empty);
  reached = omega arith;
  passed = λ k x less h. absurd (omega (arith, less));
}

-- The positions that follow one more of the list are seen.
pub listed_more : (table : List (List ℕ)) (starts : List ℕ) (barred : ℕ) (seen : List Bool) (list : List ℕ) (first next : ℕ)
    (steps : List ℕ) (later_seen : List Bool) (later : List ℕ) → slice_get list first ≡ Some next →
    slice_get table next ≡ Some steps → IsListed table starts barred seen list first →
    Sees steps barred seen list later_seen later → IsListed table starts barred later_seen later (first + 1)
listed_more table starts barred seen list first next steps later_seen later at there ahead sees = record {
  sized = sees.count ∙ ahead.sized;
  begun = λ x h free. sees.kept x (ahead.begun x h free);
  sound = λ x h. elim (sees.only x h) as (λ _. IsMet table starts barred x) [
    | inl p ↦ ahead.sound x p
    | inr q ↦ IsMet.goes next x met (a_step table next x steps there q.0) q.1
  ];
  known = λ x h. elim (sees.known x h) as (λ _. IsSeen later_seen x) [
    | inl p ↦ sees.kept x (ahead.known x p)
    | inr q ↦ q
  ];
  listed = λ x h. elim (sees.new x h) as (λ _. Contains later x) [
    | inl p ↦ sees.still x (ahead.listed x p)
    | inr q ↦ q
  ];
  apart = sees.apart ahead.known ahead.apart;
  reached = omega (arith, slice_get_within later first next (sees.front first next at));
  passed = λ k x less h. elim (cases_eq k first) as (λ _. IsPassed table barred later_seen x) [
    | inl e ↦ subst (IsPassed table barred later_seen)
        (same_Some next x (sym (sees.front first next at) ∙ subst (λ (i : ℕ). slice_get later i ≡ Some x) e h)) passed
    | inr differ ↦ old k x (omega (arith, less, differ)) h
  ];
}
  where
    met : IsMet table starts barred next
    met = ahead.sound next (ahead.known next (contains_at list first next at))

    passed : IsPassed table barred later_seen next
    passed to step free = sees.there to (step_among table next to steps there step) free

    old : (k x : ℕ) → k < first → slice_get later k ≡ Some x → IsPassed table barred later_seen x
    old k x less h =
        let one : ℕ = get_or list k 0 in
        let was : slice_get list k ≡ Some one = slice_get-get_or list k 0 (omega (arith, less, ahead.reached)) in
        let same : one ≡ x = same_Some one x (sym (sees.front k one was) ∙ h) in
        λ to step free. sees.kept to
        (ahead.passed k x less (subst (λ (y : ℕ). slice_get list k ≡ Some y) same was) to step free)

pub listed_within : (table : List (List ℕ)) (starts : List ℕ) (barred : ℕ) (seen : List Bool) (list : List ℕ) (first : ℕ) →
    IsListed table starts barred seen list first → All (λ (x : ℕ). x < length seen) list
listed_within table starts barred seen list first ahead k d less =
    slice_get_within seen (get_or list k d) true (ahead.known (get_or list k d) (Contains-get_or list k d less))

pub lists_met : (table : List (List ℕ)) (starts : List ℕ) (barred : ℕ) (seen : List Bool) (list : List ℕ) →
    ListsSeen table starts barred seen list → ListsMet table starts barred list
lists_met table starts barred seen list all = record {
  apart = all.apart;
  within = subst (λ (n : ℕ). All (λ (x : ℕ). x < n) list) all.sized
      (listed_within table starts barred seen list (length list) all);
  sound = λ x c. all.sound x (all.known x c);
  whole = whole;
}
  where
    whole : (x : ℕ) → IsMet table starts barred x → Contains list x
    whole _ (IsMet.begins start among free) = all.listed start (all.begun start among free)
    whole _ (IsMet.goes from to met step free) =
        let (k, at) = place_of list from (whole from met) in
        all.listed to (all.passed k from (slice_get_within list k from at) at to step free)

pub listed_next : (table : List (List ℕ)) (starts : List ℕ) (barred : ℕ) (seen : List Bool) (list : List ℕ) (first next : ℕ) →
    slice_get list first ≡ Some next → IsListed table starts barred seen list first → next < length table
listed_next table starts barred seen list first next at ahead =
    omega (arith, ahead.sized, slice_get_within seen next true (ahead.known next (contains_at list first next at)))
