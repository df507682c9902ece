-- The steps that are no back arcs, and cycles of them.
use Rattle.std.proofs.Common.{◌≡◌, ℕ, ◌+◌, ◌<◌, List, [], ◌∷◌, ◌++◌, length, length-append, sym, subst, ◌∙◌, Some, arith, inl, inr, ◌⊎◌}
use Rattle.std.specs.Prelude.{Contains, slice_get}
use Rattle.std.proofs.lemmas.Bool.{cases_eq}
use Rattle.loop_nest.specs.Arcs.{Crosses, IsBack}
use Rattle.step_table.specs.Cycles.{IsCyclic}
use Rattle.loop_nest.specs.Cycles.{AreForward, IsForward}
use Rattle.step_table.specs.Numbers.{number_of}
use Rattle.loop_nest.specs.Ranks.{AreRanks, IsFalling}
use Rattle.step_table.specs.Table.{IsMet, IsReverse, IsStep, IsWithin}
use Rattle.step_table.proofs.Meeting.{a_step, step_among}
use Rattle.step_table.proofs.Places.{place_cases, place_last, place_left}
use Rattle.loop_nest.proofs.Removing.{falling_met}
use Rattle.step_table.proofs.Reversing.{from_within, step_within, within_by}

-- The table of the steps from the first positions that are no back arcs.
pub record IsForwarding (table sources : List (List ℕ)) (done : ℕ) (forward : List (List ℕ)) : Type 0 where
  pub count : length forward ≡ done
  pub sound : (from to : ℕ) → IsStep forward from to → IsStep table from to × (IsStep sources to from → ⊥)
  pub whole : (from to : ℕ) → from < done → IsStep table from to → (IsStep sources to from → ⊥) → IsStep forward from to

-- The steps from one position more. The back arcs from it are read from those that are listed by their headers,
-- turned round.
pub forwarding_more : (table sources turned : List (List ℕ)) (done : ℕ) (forward : List (List ℕ)) (backs steps list : List ℕ) →
    IsReverse sources turned → IsForwarding table sources done forward → slice_get turned done ≡ Some backs →
    slice_get table done ≡ Some steps → AreForward backs steps list →
    IsForwarding table sources (done + 1) (forward ++ list ∷ [])
forwarding_more table sources turned done forward backs steps list is ahead away there are = record {
  count = omega (arith, ahead.count, length-append forward (list ∷ []));
  sound = λ from to step. sound_by from to step (place_cases forward list from step.steps step.there);
  whole = λ from to less step free. elim (cases_eq from done) as (λ _. IsStep later from to) [
    | inl e ↦ subst (λ (at : ℕ). IsStep later at to) (sym e)
        (a_step later done to list at_done ((are to).1 (
          step_among table done to steps there (subst (λ (at : ℕ). IsStep table at to) e step),
          λ c. free (subst (IsStep sources to) (sym e) (is.only done to (a_step turned done to backs away c))),
        )))
    | inr differ ↦ let old : IsStep forward from to = ahead.whole from to (omega (arith, less, differ)) step free in
        a_step later from to old.steps (place_left forward (list ∷ []) from old.steps old.there) old.goes
  ];
}
  where
    later : List (List ℕ)
    later = forward ++ list ∷ []

    at_done : slice_get later done ≡ Some list
    at_done = subst (λ (at : ℕ). slice_get later at ≡ Some list) ahead.count (place_last forward list)

    sound_by : (from to : ℕ) (step : IsStep later from to) →
        (slice_get forward from ≡ Some step.steps) ⊎ ((from ≡ length forward) × (list ≡ step.steps)) →
        IsStep table from to × (IsStep sources to from → ⊥)
    sound_by from to step (inl old) = ahead.sound from to (a_step forward from to step.steps old step.goes)
    sound_by from to step (inr both) =
        let (among, free) = (are to).0 (subst (λ (xs : List ℕ). Contains xs to) (sym both.1) step.goes) in
        subst (λ (at : ℕ). IsStep table at to × (IsStep sources to at → ⊥)) (sym (both.0 ∙ ahead.count)) (
          a_step table done to steps there among,
          λ step. free (step_among turned done to backs away (is.back to done step)),
        )

pub forwarding_end : (table sources : List (List ℕ)) (done : ℕ) (forward : List (List ℕ)) → done ≡ length table →
    IsForwarding table sources done forward → IsForward table sources forward
forwarding_end table sources done forward end ahead = record {
  count = ahead.count ∙ end;
  sound = λ from to step. (ahead.sound from to step).0;
  apart = λ from to step. (ahead.sound from to step).1;
  whole = λ from to step free. ahead.whole from to (omega (arith, end, from_within table from to step)) step free;
}

pub forward_within : (table sources forward : List (List ℕ)) → IsWithin table → IsForward table sources forward →
    IsWithin forward
forward_within table sources forward within is =
    within_by forward (length forward)
    (λ from to step. omega (arith, is.count, step_within table within from to (is.sound from to step)))

-- A step that crosses closes a cycle without back arcs.
pub crossed_cyclic : (table sources forward : List (List ℕ)) (entry : ℕ) (ranks : List ℕ) (from header : ℕ) →
    IsWithin table → AreRanks table entry ranks → IsForward table sources forward →
    ((from header : ℕ) → IsStep sources header from → IsBack table entry from header) →
    Crosses table entry ranks from header → IsCyclic forward from
crossed_cyclic table sources forward entry ranks from header within are is sound crosses =
    record { steps = closing.steps; there = closing.there; met = met from (falling (are.settled from header (from_within table from header crosses.goes) crosses.goes).1) }
  where
    free : (x y : ℕ) → IsMet table (entry ∷ []) y x → IsStep sources y x → ⊥
    free x y met back = (sound x y back).behind met

    closing : IsStep forward from header
    closing = is.whole from header crosses.goes (free from header crosses.met)

    falling : (number_of ranks header < number_of ranks from) ⊎ IsFalling table ranks header from → IsFalling table ranks header from
    falling (inl less) = absurd (omega (arith, less, crosses.retreats))
    falling (inr trail) = trail

    inner : (x y : ℕ) → IsStep table x y → y ≡ length forward → ⊥
    inner x y step e = omega (arith, e, is.count, step_within table within x y step)

    met : (x : ℕ) → IsFalling table ranks header x → IsMet forward closing.steps (length forward) x
    met _ IsFalling.begins = IsMet.begins header closing.goes (inner from header crosses.goes)
    met _ (IsFalling.goes x y trail step falls) =
        IsMet.goes x y (met x trail)
        (is.whole x y step (free x y (falling_met table entry ranks x y are step falls.1)))
        (inner x y step)
