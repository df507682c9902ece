-- Without cycles a search in depth leaves each position behind those to which its steps go.
use Rattle.std.proofs.Common.{◌≡◌, ℕ, ◌<◌, ◌⊎◌, inl, inr, ⊎_elim, List, [], ◌∷◌, ◌++◌, length, All, Contains, Some, slice_get, sym, subst, arith}
use Rattle.std.proofs.lemmas.List.Elements.{All-nil, All-push, Contains-push, Contains-push_cases}
use Rattle.std.proofs.lemmas.Option.{none-some, slice_get_within}
use Rattle.step_table.proofs.Places.{place_cases, place_left}
use Rattle.step_table.proofs.Positions.{place_of}
use Rattle.step_table.proofs.Seen.{in_none}
use Rattle.step_table.specs.Cycles.{IsCyclic}
use Rattle.step_table.specs.Rings.{AreLeft, IsLeft, IsOrder, begins, more}
use Rattle.step_table.specs.Table.{IsMet, IsStep}
use Rattle.call_contexts.specs.Counting.{IsAcyclic, IsFinished, StandsBefore}

-- What is met from where a step goes is met from the steps.
met_on : (table : List (List ℕ)) (from to last : ℕ) (step : IsStep table from to) → IsMet table (to ∷ []) (length table) last →
    IsMet table step.steps (length table) last
met_on table from to _ step (IsMet.begins start among differ) = IsMet.begins start (by_case (Contains-push_cases [] to start among)) differ
  where
    by_case : Contains [] start ⊎ (to ≡ start) → Contains step.steps start
    by_case (inl none) = absurd (in_none start none)
    by_case (inr same) = subst (Contains step.steps) same step.goes
met_on table from to _ step (IsMet.goes one other met next differ) = IsMet.goes one other (met_on table from to one step met) next differ

-- A step to where steps lead back lies on a cycle.
cycle_back : (table : List (List ℕ)) (from to : ℕ) → IsStep table from to → IsMet table (to ∷ []) (length table) from → IsCyclic table from
cycle_back table from to step met = record { steps = step.steps; there = step.there; met = met_on table from to from step met }

-- So does a step from a position to itself.
cycle_own : (table : List (List ℕ)) (from : ℕ) → IsStep table from from → IsCyclic table from
cycle_own table from step = record {
  steps = step.steps;
  there = step.there;
  met = IsMet.begins from step.goes (λ e. omega (arith, e, slice_get_within table from step.steps step.there));
}

-- The steps of the position that is left go to earlier ones.
steps_left : (table : List (List ℕ)) (before : List ℕ) (last to : ℕ) → IsAcyclic table → IsLeft table before last → IsStep table last to →
    Contains before to
steps_left table before last to acyclic left step = by_goal (left.goes last to (Contains-push before last) step)
  where
    by_among : Contains before to ⊎ (last ≡ to) → Contains before to
    by_among (inl there) = there
    by_among (inr same) = absurd (acyclic last (cycle_own table last (subst (λ (x : ℕ). IsStep table last x) (sym same) step)))

    by_goal : Contains (before ++ last ∷ []) to ⊎ IsMet table (to ∷ []) (length table) last → Contains before to
    by_goal (inl among) = by_among (Contains-push_cases before last to among)
    by_goal (inr met) = absurd (acyclic last (cycle_back table last to step met))

stands_still : (before : List ℕ) (last position place : ℕ) → StandsBefore before position place → StandsBefore (before ++ last ∷ []) position place
stands_still before last position place stands = record {
  earlier = stands.earlier;
  before = stands.before;
  there = place_left before (last ∷ []) stands.earlier position stands.there;
}

left_last : (table : List (List ℕ)) (before : List ℕ) (last position place to : ℕ) → IsAcyclic table → IsLeft table before last →
    IsStep table position to → place ≡ length before → last ≡ position → StandsBefore (before ++ last ∷ []) to place
left_last table before last position place to acyclic left step here same =
    let found = place_of before to (steps_left table before last to acyclic left (subst (λ (x : ℕ). IsStep table x to) (sym same) step)) in
    stands_still before last to place (record {
      earlier = found.0;
      before = omega (arith, here, slice_get_within before found.0 to found.1);
      there = found.1;
    })

left_behind : (table : List (List ℕ)) (order : List ℕ) → IsAcyclic table → AreLeft table order → (place position to : ℕ) →
    slice_get order place ≡ Some position → IsStep table position to → StandsBefore order to place
left_behind table _ acyclic begins place position to at step = absurd (none-some position at)
left_behind table _ acyclic (more before last are left) place position to at step =
    ⊎_elim (λ earlier. stands_still before last to place (left_behind table before acyclic are place position to earlier step))
    (λ both. left_last table before last position place to acyclic left step both.0 both.1)
    (place_cases before last place position at)

left_within : (table : List (List ℕ)) (order : List ℕ) → AreLeft table order → All (λ position. position < length table) order
left_within table _ begins = All-nil (λ position. position < length table)
left_within table _ (more before last are left) = All-push (λ position. position < length table) before last (left_within table before are) left.there

pub finished : (table : List (List ℕ)) (order : List ℕ) → IsAcyclic table → IsOrder table order → IsFinished table order
finished table order acyclic is = record {
  within = left_within table order is.left;
  whole = is.whole;
  behind = left_behind table order acyclic is.left;
}
