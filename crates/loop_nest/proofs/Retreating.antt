-- Steps that don't fall in rank: all back arcs are among them, and they are the back arcs where no header is passed by.
use Rattle.std.proofs.Common.{◌≡◌, ℕ, ◌+◌, ◌<◌, ◌≤◌, List, [], ◌∷◌, ◌++◌, length, length-append, sym, subst, ◌∙◌, Some, arith, inl, inr}
use Rattle.std.specs.Prelude.{slice_get}
use Rattle.std.proofs.lemmas.Bool.{cases_eq, cases_lt}
use Rattle.std.proofs.lemmas.Option.{same_Some}
use Rattle.loop_nest.specs.Arcs.{AreBacks, AreKept, AreRetreats, AreRetreatsTo, Crosses, HaveBacks, IsPassedBy}
use Rattle.loop_nest.specs.declared.plan.Plan.{Plan}
use Rattle.loop_nest.specs.Plans.{IsCrossed}
use Rattle.loop_nest.specs.Ranks.{AreRanks}
use Rattle.step_table.specs.Numbers.{number_of}
use Rattle.step_table.specs.Table.{IsMet, IsReverse, IsStep, IsWithin}
use Rattle.step_table.proofs.Meeting.{a_step, step_among}
use Rattle.step_table.proofs.Reversing.{from_within, reverse_within, step_within, within_by}
use Rattle.step_table.proofs.Ringing.{IsTurned, turned}
use Rattle.loop_nest.proofs.Choosing.{AreChosen, step_cases, step_new, step_old}
use Rattle.loop_nest.proofs.Removing.{falling_met, none_met}

-- The steps to one header more.
pub retreats_more : (reverse : List (List ℕ)) (ranks : List ℕ) (done : ℕ) (sources : List (List ℕ)) (before list : List ℕ) →
    AreRetreatsTo reverse ranks done sources → slice_get reverse done ≡ Some before →
    AreChosen (λ (x : ℕ). number_of ranks x ≤ number_of ranks done) before list →
    AreRetreatsTo reverse ranks (done + 1) (sources ++ list ∷ [])
retreats_more reverse ranks done sources before list are there chosen = record {
  count = omega (arith, are.count, length-append sources (list ∷ []));
  sound = λ x header step. elim (step_cases sources list header x step) as (λ _. IsStep reverse header x) [
    | inl old ↦ are.sound x header old
    | inr both ↦ subst (λ (at : ℕ). IsStep reverse at x) (sym (both.0 ∙ are.count))
        (a_step reverse done x before there ((chosen x).0 both.1).0)
  ];
  retreats = λ x header step. elim (step_cases sources list header x step)
      as (λ _. number_of ranks x ≤ number_of ranks header) [
        | inl old ↦ are.retreats x header old
        | inr both ↦ subst (λ (at : ℕ). number_of ranks x ≤ number_of ranks at) (sym (both.0 ∙ are.count))
            ((chosen x).0 both.1).1
      ];
  whole = λ x header less step retreats. elim (cases_eq header done) as (λ _. IsStep (sources ++ list ∷ []) header x) [
    | inl e ↦ subst (λ (at : ℕ). IsStep (sources ++ list ∷ []) at x) (sym e)
        (step_new sources list done x are.count
        ((chosen x).1 (
          step_among reverse done x before there (subst (λ (at : ℕ). IsStep reverse at x) e step),
          subst (λ (at : ℕ). number_of ranks x ≤ number_of ranks at) e retreats,
        )))
    | inr differ ↦ step_old sources list header x (are.whole x header (omega (arith, less, differ)) step retreats)
  ];
}

pub retreats_within : (reverse : List (List ℕ)) (ranks : List ℕ) (done : ℕ) (sources : List (List ℕ)) → IsWithin reverse →
    AreRetreatsTo reverse ranks done sources → done ≡ length reverse → IsWithin sources
retreats_within reverse ranks done sources within are all =
    within_by sources (length sources)
    (λ header from step. omega (arith, are.count, all, step_within reverse within header from (are.sound from header step)))

-- All back arcs are among them.
pub have_backs : (table reverse : List (List ℕ)) (entry : ℕ) (ranks : List ℕ) (steps : List (List ℕ)) →
    AreRanks table entry ranks → IsReverse table reverse → AreRetreats reverse ranks steps → HaveBacks table entry steps
have_backs table reverse entry ranks steps ranked is are = record {
  count = are.count ∙ is.count;
  sound = λ x header step. is.only header x (are.sound x header step);
  whole = λ x header back. elim (cases_lt (number_of ranks header) (number_of ranks x)) as (λ _. IsStep steps header x) [
    | inl falls ↦ absurd (back.behind (falling_met table entry ranks x header ranked back.goes falls))
    | inr stays ↦ are.whole x header (from_within reverse header x (is.back x header back.goes))
        (is.back x header back.goes) (omega (arith, stays))
  ];
}

-- Where no header is passed by, no way from the entry to a source misses its header.
pub kept_all : (table reverse : List (List ℕ)) (entry : ℕ) (ranks : List ℕ) (steps : List (List ℕ)) →
    IsReverse table reverse → AreRetreats reverse ranks steps →
    ((header : ℕ) → IsPassedBy reverse steps entry header → ⊥) → AreKept table entry ranks
kept_all table reverse entry ranks steps is are unpassed from header step retreats = record {
  goes = step;
  behind = none_met table reverse listed.steps entry header is
      (λ met. unpassed header (record { from = listed.steps; there = listed.there; met = met })) from listed.goes;
}
  where
    listed : IsStep steps header from
    listed = are.whole from header (from_within reverse header from (is.back from header step)) (is.back from header step) retreats

pub backs_all : (table reverse : List (List ℕ)) (entry : ℕ) (ranks : List ℕ) (steps : List (List ℕ)) →
    AreRanks table entry ranks → IsReverse table reverse → AreRetreats reverse ranks steps → AreKept table entry ranks →
    AreBacks table entry steps
backs_all table reverse entry ranks steps ranked is are kept =
    let have : HaveBacks table entry steps = have_backs table reverse entry ranks steps ranked is are in record {
      count = have.count;
      sound = λ from header step. kept from header (have.sound from header step) (are.retreats from header step);
      whole = λ from header less back. have.whole from header back;
    }

-- A header that is passed by has a step that crosses.
pub crossed_by : (table reverse : List (List ℕ)) (entry : ℕ) (ranks : List ℕ) (steps : List (List ℕ)) (header : ℕ) →
    IsReverse table reverse → AreRetreats reverse ranks steps → IsPassedBy reverse steps entry header →
    (from : ℕ) × Crosses table entry ranks from header
crossed_by table reverse entry ranks steps header is are passed =
    by_turned (turned reverse table passed.from header entry is.only passed.met)
  where
    by_turned : IsTurned table passed.from header entry → (from : ℕ) × Crosses table entry ranks from header
    by_turned t =
        let step : IsStep steps header t.start = a_step steps header t.start passed.from passed.there t.among in (
          t.start,
          record {
            goes = is.only header t.start (are.sound t.start header step);
            retreats = are.retreats t.start header step;
            met = t.met;
          },
        )

-- One header more isn't passed by.
pub unpassed_more : (reverse sources : List (List ℕ)) (entry done : ℕ) (from : List ℕ) →
    ((header : ℕ) → header < done → IsPassedBy reverse sources entry header → ⊥) → slice_get sources done ≡ Some from →
    (IsMet reverse from done entry → ⊥) → (header : ℕ) → header < done + 1 → IsPassedBy reverse sources entry header → ⊥
unpassed_more reverse sources entry done from none there unmet header less passed =
    elim (cases_eq header done) as (λ _. ⊥) [
      | inl e ↦ at_done (subst (IsPassedBy reverse sources entry) e passed)
      | inr differ ↦ none header (omega (arith, less, differ)) passed
    ]
  where
    at_done : IsPassedBy reverse sources entry done → ⊥
    at_done p = unmet (subst (λ (xs : List ℕ). IsMet reverse xs done entry) (same_Some p.from from (sym p.there ∙ there)) p.met)

-- What is known of a plan whose steps are not all back arcs.
pub crossed_plan : (plan : Plan) (ranks : List ℕ) (steps : List (List ℕ)) → IsWithin plan.table.items →
    plan.entry < length plan.table.items → AreRanks plan.table.items plan.entry ranks → IsWithin steps →
    IsReverse plan.table.items plan.reverse.items → AreRetreats plan.reverse.items ranks steps →
    (header : ℕ) × IsPassedBy plan.reverse.items steps plan.entry header → IsCrossed plan steps
crossed_plan plan ranks steps within begins ranked listed is are (header, passed) =
    let (from, crosses) = crossed_by plan.table.items plan.reverse.items plan.entry ranks steps header is are passed in
    record {
      ranks = ranks;
      within = within;
      begins = begins;
      ranked = ranked;
      reversed = is;
      behind = reverse_within plan.table.items plan.reverse.items is;
      listed = listed;
      backs = have_backs plan.table.items plan.reverse.items plan.entry ranks steps ranked is are;
      from = from;
      header = header;
      crosses = crosses;
    }
