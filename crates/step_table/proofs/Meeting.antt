-- How a search goes on, and that it has found all to which steps lead when nothing waits.
use Rattle.std.proofs.Common.{◌≡◌, ℕ, ◌<◌, Bool, true, false, List, [], ◌∷◌, ◌++◌, length, replicate, refl, sym, subst, ap, ◌∙◌, Some, arith, inl, inr, ◌⊎◌}
use Rattle.std.specs.Prelude.{Contains, slice_get}
use Rattle.std.proofs.Math.ListN.{length-replicate}
use Rattle.std.proofs.lemmas.Option.{same_Some, slice_get_within}
use Rattle.std.proofs.lemmas.List.Elements.{Contains-append_cases, Contains-append_left, Contains-append_right, Contains-push, Contains-push_cases}
use Rattle.step_table.specs.Search.{IsPassed, IsSearch, IsSeen, Sees, SeesMet}
use Rattle.step_table.specs.Table.{IsMet, IsStep}
use Rattle.step_table.proofs.Seen.{in_none, slice_get-replicate}

pub empty_by : (xs : List ℕ) → (0 < length xs → ⊥) → xs ≡ []
empty_by [] none = refl
empty_by (x ∷ xs) none = absurd (none (omega arith))

-- A step goes to one of the positions that are listed.
pub step_among : (table : List (List ℕ)) (from to : ℕ) (steps : List ℕ) → slice_get table from ≡ Some steps →
    IsStep table from to → Contains steps to
step_among table from to steps there step =
    subst (λ (s : List ℕ). Contains s to) (same_Some step.steps steps (sym step.there ∙ there)) step.goes

pub a_step : (table : List (List ℕ)) (from to : ℕ) (steps : List ℕ) → slice_get table from ≡ Some steps →
    Contains steps to → IsStep table from to
a_step table from to steps there goes = record { steps = steps; there = there; goes = goes }

pub unseen_by : (seen : List Bool) (n x : ℕ) → seen ≡ replicate n false → IsSeen seen x → ⊥
unseen_by seen n x e h =
    let same : false ≡ true =
    slice_get-replicate n x false true (subst (λ (s : List Bool). IsSeen s x) e h) in cc

pub nothing : (none : List ℕ) (x : ℕ) → none ≡ [] → Contains none x → ⊥
nothing none x e h = in_none x (subst (λ (xs : List ℕ). Contains xs x) e h)

-- What is met from some positions is met from others from which these are met.
pub met_through : (table : List (List ℕ)) (starts others : List ℕ) (barred x : ℕ) →
    ((s : ℕ) → Contains starts s → (s ≡ barred → ⊥) → IsMet table others barred s) → IsMet table starts barred x →
    IsMet table others barred x
met_through table starts others barred _ each (IsMet.begins start among free) = each start among free
met_through table starts others barred _ each (IsMet.goes from to met step free) =
    IsMet.goes from to (met_through table starts others barred from each met) step free

pub met_wider : (table : List (List ℕ)) (starts others : List ℕ) (barred x : ℕ) →
    ((s : ℕ) → Contains starts s → Contains others s) → IsMet table starts barred x → IsMet table others barred x
met_wider table starts others barred x each met =
    met_through table starts others barred x (λ s c free. IsMet.begins s (each s c) free) met

-- Nothing is met from nothing.
pub SeesMet-nothing : (table : List (List ℕ)) (barred n : ℕ) (seen : List Bool) → seen ≡ replicate n false →
    n ≡ length table → SeesMet table [] barred seen
SeesMet-nothing table barred n seen fresh same = record {
  count = ap length fresh ∙ length-replicate n false ∙ same;
  sound = λ x h. absurd (unseen_by seen n x fresh h);
  whole = λ x met. absurd (nowhere x met);
}
  where
    nowhere : (x : ℕ) → IsMet table [] barred x → ⊥
    nowhere _ (IsMet.begins start among free) = in_none start among
    nowhere _ (IsMet.goes from to met step free) = nowhere from met

-- Some more starts are seen, and wait.
pub search_more : (table : List (List ℕ)) (others starts : List ℕ) (barred : ℕ) (seen later : List Bool) (none waiting : List ℕ) →
    none ≡ [] → SeesMet table others barred seen → Sees starts barred seen none later waiting →
    IsSearch table (others ++ starts) barred later waiting
search_more table others starts barred seen later none waiting empty met sees = record {
  count = sees.count ∙ met.count;
  begun = λ x c free. elim (Contains-append_cases others starts x c) as (λ _. IsSeen later x) [
    | inl old ↦ sees.kept x (met.whole x (IsMet.begins x old free))
    | inr new ↦ sees.there x new free
  ];
  sound = λ x h. elim (sees.only x h) as (λ _. IsMet table (others ++ starts) barred x) [
    | inl old ↦ met_wider table others (others ++ starts) barred x (λ s c. Contains-append_left others starts s c) (met.sound x old)
    | inr new ↦ IsMet.begins x (Contains-append_right others starts x new.0) new.1
  ];
  known = λ x c. elim (sees.known x c) as (λ _. IsSeen later x) [
    | inl old ↦ absurd (nothing none x empty old)
    | inr new ↦ new
  ];
  done = λ x h. elim (sees.new x h) [
    | inl old ↦ inr (λ to step free. sees.kept to (met.whole to (IsMet.goes x to (met.sound x old) step free)))
    | inr new ↦ inl new
  ];
}

turn : (table : List (List ℕ)) (starts : List ℕ) (barred next : ℕ) (steps : List ℕ) (seen : List Bool)
    (rest : List ℕ) (later_seen : List Bool) (later_waiting : List ℕ) → slice_get table next ≡ Some steps →
    IsSearch table starts barred seen (rest ++ next ∷ []) →
    Sees steps barred seen rest later_seen later_waiting →
    IsSearch table starts barred later_seen later_waiting
turn table starts barred next steps seen rest later_seen later_waiting there ahead sees =
    let met : IsMet table starts barred next =
    ahead.sound next (ahead.known next (Contains-push rest next)) in
    record {
      count = sees.count ∙ ahead.count;
      begun = λ x h free. sees.kept x (ahead.begun x h free);
      sound = λ x h. elim (sees.only x h) [
        | inl p ↦ ahead.sound x p
        | inr q ↦ IsMet.goes next x met (a_step table next x steps there q.0) q.1
      ];
      known = λ x h. elim (sees.known x h) [
        | inl p ↦ sees.kept x (ahead.known x (Contains-append_left rest (next ∷ []) x p))
        | inr q ↦ q
      ];
      done = λ x h. elim (sees.new x h) [
        | inl p ↦ done_by x (ahead.done x p)
        | inr q ↦ inl q
      ];
    }
  where
    passed : IsPassed table barred later_seen next
    passed to step free = sees.there to (step_among table next to steps there step) free

    done_by : (x : ℕ) → Contains (rest ++ next ∷ []) x ⊎ IsPassed table barred seen x →
        Contains later_waiting x ⊎ IsPassed table barred later_seen x
    done_by x (inr d) = inr (λ y h free. sees.kept y (d y h free))
    done_by x (inl w) = elim (Contains-push_cases rest next x w) [
      | inl p ↦ inl (sees.still x p)
      | inr e ↦ inr (subst (IsPassed table barred later_seen) e passed)
    ]

-- One position is taken, and its steps are seen.
pub IsSearch-turn : (table : List (List ℕ)) (starts : List ℕ) (barred next : ℕ) (steps : List ℕ)
    (seen : List Bool) (waiting rest : List ℕ) (later_seen : List Bool) (later_waiting : List ℕ) →
    slice_get table next ≡ Some steps → IsSearch table starts barred seen waiting →
    waiting ≡ rest ++ next ∷ [] → Sees steps barred seen rest later_seen later_waiting →
    IsSearch table starts barred later_seen later_waiting
IsSearch-turn table starts barred next steps seen waiting rest later_seen later_waiting there ahead e sees =
    turn table starts barred next steps seen rest later_seen later_waiting there
    (subst (IsSearch table starts barred seen) e ahead) sees

-- Waiting positions stay positions of the table.
pub waiting_inside : (positions : List ℕ) (barred : ℕ) (seen later : List Bool) (waiting more : List ℕ) →
    Sees positions barred seen waiting later more → ((x : ℕ) → Contains waiting x → x < length seen) →
    (x : ℕ) → Contains more x → x < length later
waiting_inside positions barred seen later waiting more sees inside x c =
    elim (sees.known x c) as (λ _. x < length later) [
      | inl old ↦ omega (arith, inside x old, sees.count)
      | inr new ↦ slice_get_within later x true new
    ]

-- Nothing waits, so that each position to which steps lead is seen.
pub IsSearch-end : (table : List (List ℕ)) (starts : List ℕ) (barred : ℕ) (seen : List Bool)
    (waiting : List ℕ) → IsSearch table starts barred seen waiting → (0 < length waiting → ⊥) →
    SeesMet table starts barred seen
IsSearch-end table starts barred seen waiting ahead none =
    record { count = ahead.count; sound = ahead.sound; whole = whole }
  where
    empty : waiting ≡ []
    empty = empty_by waiting none

    whole : (x : ℕ) → IsMet table starts barred x → IsSeen seen x
    whole _ (IsMet.begins start among free) = ahead.begun start among free
    whole _ (IsMet.goes from to met step free) =
        elim (ahead.done from (whole from met)) as (λ _. IsSeen seen to) [
          | inl w ↦ absurd (nothing waiting from empty w)
          | inr passed ↦ passed to step free
        ]
