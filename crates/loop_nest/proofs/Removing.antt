-- Which positions a header's back arcs come from.
use Rattle.std.proofs.Common.{◌≡◌, ℕ, ◌+◌, ◌<◌, List, [], ◌∷◌, ◌++◌, length-append, refl, sym, subst, ap, ◌∙◌, Some, arith, inl, inr}
use Rattle.std.specs.Prelude.{Contains, slice_get}
use Rattle.std.proofs.lemmas.Bool.{cases_eq}
use Rattle.loop_nest.specs.Arcs.{AreBacksTo, HaveBacks, IsBack}
use Rattle.step_table.specs.Numbers.{number_of}
use Rattle.loop_nest.specs.Ranks.{AreRanks, IsHigh}
use Rattle.step_table.specs.Table.{IsMet, IsReverse, IsStep}
use Rattle.step_table.proofs.Meeting.{a_step, met_wider, step_among}
use Rattle.step_table.proofs.Reversing.{from_within}
use Rattle.step_table.proofs.Ringing.{IsTurned, turned}
use Rattle.step_table.proofs.Seen.{alone}
use Rattle.loop_nest.proofs.Choosing.{AreChosen, step_cases, step_new, step_old}

-- A trail without lesser ranks avoids a position with a lesser one.
pub high_avoids : (table : List (List ℕ)) (ranks : List ℕ) (floor entry header x : ℕ) → number_of ranks header < floor →
    IsHigh table ranks floor entry x → IsMet table (entry ∷ []) header x
high_avoids table ranks floor entry header _ less (IsHigh.begins h) =
    IsMet.begins entry (0, omega arith, refl)
    (λ e. omega (arith, h, less, ap (λ (at : ℕ). number_of ranks at) e))
high_avoids table ranks floor entry header _ less (IsHigh.goes from to high step h) =
    IsMet.goes from to (high_avoids table ranks floor entry header from less high) step
    (λ e. omega (arith, h, less, ap (λ (at : ℕ). number_of ranks at) e))

-- A step to a lesser rank is no back arc.
pub falling_met : (table : List (List ℕ)) (entry : ℕ) (ranks : List ℕ) (from header : ℕ) → AreRanks table entry ranks →
    IsStep table from header → number_of ranks header < number_of ranks from → IsMet table (entry ∷ []) header from
falling_met table entry ranks from header are step less =
    high_avoids table ranks (number_of ranks from) entry header from less
    (are.high from (from_within table from header step))

-- If no way from the entry to one of some positions misses the header, none of them is met from the entry without it.
pub none_met : (table reverse : List (List ℕ)) (positions : List ℕ) (entry header : ℕ) → IsReverse table reverse →
    (IsMet reverse positions header entry → ⊥) → (x : ℕ) → Contains positions x → IsMet table (entry ∷ []) header x → ⊥
none_met table reverse positions entry header is unpassed x among met =
    unpassed (passed (turned table reverse (entry ∷ []) header x is.back met))
  where
    passed : IsTurned reverse (entry ∷ []) header x → IsMet reverse positions header entry
    passed t =
        met_wider reverse (x ∷ []) positions header entry (λ s c. subst (Contains positions) (alone x s c) among)
        (subst (IsMet reverse (x ∷ []) header) (sym (alone entry t.start t.among)) t.met)

-- The arcs to one header more.
pub backs_more : (table steps : List (List ℕ)) (entry done : ℕ) (sources : List (List ℕ)) (from list : List ℕ) →
    HaveBacks table entry steps → AreBacksTo table entry done sources → slice_get steps done ≡ Some from →
    AreChosen (λ (x : ℕ). IsMet table (entry ∷ []) done x → ⊥) from list →
    AreBacksTo table entry (done + 1) (sources ++ list ∷ [])
backs_more table steps entry done sources from list have backs there chosen = record {
  count = omega (arith, backs.count, length-append sources (list ∷ []));
  sound = λ x header step. elim (step_cases sources list header x step) as (λ _. IsBack table entry x header) [
    | inl old ↦ backs.sound x header old
    | inr both ↦ subst (IsBack table entry x) (sym (both.0 ∙ backs.count)) (new x both.1)
  ];
  whole = λ x header less back. elim (cases_eq header done) as (λ _. IsStep (sources ++ list ∷ []) header x) [
    | inl e ↦ subst (λ (at : ℕ). IsStep (sources ++ list ∷ []) at x) (sym e)
        (step_new sources list done x backs.count (chosen_back x (subst (IsBack table entry x) e back)))
    | inr differ ↦ step_old sources list header x (backs.whole x header (omega (arith, less, differ)) back)
  ];
}
  where
    new : (x : ℕ) → Contains list x → IsBack table entry x done
    new x c = let (among, behind) = (chosen x).0 c in
        record { goes = have.sound x done (a_step steps done x from there among); behind = behind }

    chosen_back : (x : ℕ) → IsBack table entry x done → Contains list x
    chosen_back x back = (chosen x).1 (step_among steps done x from there (have.whole x done back), back.behind)
