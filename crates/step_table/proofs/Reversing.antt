-- Items are added to the lists of a table, until it has all steps the other way round.
use Rattle.std.proofs.Common.{◌≡◌, ℕ, ◌+◌, ◌<◌, List, [], ◌∷◌, ◌++◌, All, length, get_or, set, refl, sym, subst, ◌∙◌, Some, arith, inl, inr, ◌⊎◌}
use Rattle.std.specs.Prelude.{Contains, slice_get}
use Rattle.std.proofs.Math.ListN.{length-set}
use Rattle.std.proofs.lemmas.Bool.{cases_eq}
use Rattle.std.proofs.lemmas.Option.{slice_get-get_or, slice_get_within}
use Rattle.std.proofs.lemmas.List.Elements.{All-contains, Contains-get_or, Contains-append_cases, Contains-append_left, Contains-append_right, Contains-push, Contains-push_cases}
use Rattle.step_table.specs.Table.{IsReverse, IsStep, IsWithin, Joins}
use Rattle.step_table.proofs.Meeting.{a_step, step_among}
use Rattle.step_table.proofs.Positions.{contains_at}
use Rattle.step_table.proofs.Places.{place_cases}
use Rattle.step_table.proofs.Seen.{alone, in_none, itself, slice_get-set_other, slice_get-set_same}

pub joins_one : (lists : List (List ℕ)) (place item : ℕ) (old : List ℕ) → place < length lists →
    slice_get lists place ≡ Some old → Joins lists (place ∷ []) item (set lists place (old ++ item ∷ []))
joins_one lists place item old within there = record {
  count = length-set lists place more;
  kept = kept;
  there = λ from c. subst (λ (at : ℕ). IsStep later at item) (alone place from c)
      (a_step later place item more at_place (Contains-push old item));
  only = only;
}
  where
    more : List ℕ
    more = old ++ item ∷ []

    later : List (List ℕ)
    later = set lists place more

    at_place : slice_get later place ≡ Some more
    at_place = slice_get-set_same lists place more within

    other : (from : ℕ) → (from ≡ place → ⊥) → slice_get later from ≡ slice_get lists from
    other from differ = slice_get-set_other lists place from more (λ e. differ (sym e))

    kept : (from to : ℕ) → IsStep lists from to → IsStep later from to
    kept from to step = elim (cases_eq from place) as (λ _. IsStep later from to) [
      | inl e ↦ subst (λ (at : ℕ). IsStep later at to) (sym e)
          (a_step later place to more at_place
          (Contains-append_left old (item ∷ []) to
          (step_among lists place to old there (subst (λ (at : ℕ). IsStep lists at to) e step))))
      | inr differ ↦ a_step later from to step.steps (other from differ ∙ step.there) step.goes
    ]

    only : (from to : ℕ) → IsStep later from to → IsStep lists from to ⊎ (Contains (place ∷ []) from × (to ≡ item))
    only from to step = elim (cases_eq from place)
        as (λ _. IsStep lists from to ⊎ (Contains (place ∷ []) from × (to ≡ item))) [
          | inl e ↦ elim (Contains-push_cases old item to
              (step_among later place to more at_place (subst (λ (at : ℕ). IsStep later at to) e step)))
              as (λ _. IsStep lists from to ⊎ (Contains (place ∷ []) from × (to ≡ item))) [
                | inl c ↦ inl (subst (λ (at : ℕ). IsStep lists at to) (sym e) (a_step lists place to old there c))
                | inr same ↦ inr (subst (Contains (place ∷ [])) (sym e) (itself place), sym same)
              ]
          | inr differ ↦ inl (a_step lists from to step.steps (sym (other from differ) ∙ step.there) step.goes)
        ]

pub joins_none : (lists : List (List ℕ)) (item : ℕ) → Joins lists [] item lists
joins_none lists item = record {
  count = refl;
  kept = λ from to step. step;
  there = λ from c. absurd (in_none from c);
  only = λ from to step. inl step;
}

pub joins_then : (xs ys : List ℕ) (item : ℕ) (lists middle later : List (List ℕ)) → Joins lists xs item middle →
    Joins middle ys item later → Joins lists (xs ++ ys) item later
joins_then xs ys item lists middle later f g = record {
  count = g.count ∙ f.count;
  kept = λ from to step. g.kept from to (f.kept from to step);
  there = λ from c. elim (Contains-append_cases xs ys from c) as (λ _. IsStep later from item) [
    | inl p ↦ g.kept from item (f.there from p)
    | inr q ↦ g.there from q
  ];
  only = λ from to step. elim (g.only from to step)
      as (λ _. IsStep lists from to ⊎ (Contains (xs ++ ys) from × (to ≡ item))) [
        | inl p ↦ elim (f.only from to p)
            as (λ _. IsStep lists from to ⊎ (Contains (xs ++ ys) from × (to ≡ item))) [
              | inl q ↦ inl q
              | inr r ↦ inr (Contains-append_left xs ys from r.0, r.1)
            ]
        | inr r ↦ inr (Contains-append_right xs ys from r.0, r.1)
      ];
}

-- The lists have the steps of the first positions, the other way round.
pub record IsTurning (table : List (List ℕ)) (done : ℕ) (lists : List (List ℕ)) : Type 0 where
  pub count : length lists ≡ length table
  pub back : (from to : ℕ) → from < done → IsStep table from to → IsStep lists to from
  pub only : (from to : ℕ) → IsStep lists from to → (to < done) × IsStep table to from

pub turning_more : (table : List (List ℕ)) (done : ℕ) (lists later : List (List ℕ)) (steps : List ℕ) →
    slice_get table done ≡ Some steps → IsTurning table done lists → Joins lists steps done later →
    IsTurning table (done + 1) later
turning_more table done lists later steps there turning joins = record {
  count = joins.count ∙ turning.count;
  back = back;
  only = only;
}
  where
    back : (from to : ℕ) → from < done + 1 → IsStep table from to → IsStep later to from
    back from to less step = elim (cases_eq from done) as (λ _. IsStep later to from) [
      | inl e ↦ subst (IsStep later to) (sym e)
          (joins.there to (step_among table done to steps there (subst (λ (at : ℕ). IsStep table at to) e step)))
      | inr differ ↦ joins.kept to from (turning.back from to (omega (arith, less, differ)) step)
    ]

    only : (from to : ℕ) → IsStep later from to → (to < done + 1) × IsStep table to from
    only from to step = elim (joins.only from to step) as (λ _. (to < done + 1) × IsStep table to from) [
      | inl p ↦ let (less, s) = turning.only from to p in (omega arith, s)
      | inr r ↦ (
        omega (arith, r.1),
        subst (λ (at : ℕ). IsStep table at from) (sym r.1) (a_step table done from steps there r.0),
      )
    ]

pub turning_end : (table : List (List ℕ)) (done : ℕ) (lists : List (List ℕ)) → (done < length table → ⊥) →
    IsTurning table done lists → IsReverse table lists
turning_end table done lists end turning = record {
  count = turning.count;
  back = λ from to step. turning.back from to (omega (arith, end, slice_get_within table from step.steps step.there)) step;
  only = λ from to step. (turning.only from to step).1;
}

-- Lists without steps stay so with one more that is empty.
pub no_step_push : (lists : List (List ℕ)) (new : List ℕ) → ((from to : ℕ) → IsStep lists from to → ⊥) → new ≡ [] →
    (from to : ℕ) → IsStep (lists ++ new ∷ []) from to → ⊥
no_step_push lists new none empty from to step =
    elim (place_cases lists new from step.steps step.there) as (λ _. ⊥) [
      | inl there ↦ none from to (a_step lists from to step.steps there step.goes)
      | inr both ↦ in_none to (subst (λ (xs : List ℕ). Contains xs to) (sym both.1 ∙ empty) step.goes)
    ]

-- What is known of all steps of a table, and of each of its lists.
pub within_by : (table : List (List ℕ)) (n : ℕ) → ((from to : ℕ) → IsStep table from to → to < n) →
    All (λ (steps : List ℕ). All (λ (to : ℕ). to < n) steps) table
within_by table n each k d inside j e there =
    each k (get_or (get_or table k d) j e)
    (a_step table k (get_or (get_or table k d) j e) (get_or table k d) (slice_get-get_or table k d inside)
    (Contains-get_or (get_or table k d) j e there))

pub step_within : (table : List (List ℕ)) → IsWithin table → (from to : ℕ) → IsStep table from to → to < length table
step_within table within from to step =
    All-contains (λ (to : ℕ). to < length table) step.steps to
    (All-contains (λ (steps : List ℕ). All (λ (to : ℕ). to < length table) steps) table step.steps within
    (contains_at table from step.steps step.there)) step.goes

pub from_within : (table : List (List ℕ)) (from to : ℕ) → IsStep table from to → from < length table
from_within table from to step = slice_get_within table from step.steps step.there

pub reverse_within : (table reverse : List (List ℕ)) → IsReverse table reverse → IsWithin reverse
reverse_within table reverse is =
    within_by reverse (length reverse)
    (λ from to step. omega (arith, is.count, from_within table to from (is.only from to step)))

pub sources_within : (table : List (List ℕ)) (sources : List (List ℕ)) (n : ℕ) →
    ((from header : ℕ) → IsStep sources header from → IsStep table from header) → n ≡ length table → length sources ≡ n → IsWithin sources
sources_within table sources n sound same count =
    within_by sources (length sources)
    (λ header from step. omega (arith, count, same, from_within table from header (sound from header step)))
