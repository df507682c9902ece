-- Which positions of a list are chosen, and lists of lists that have one more at their end.
use Rattle.std.proofs.Common.{◌≡◌, ℕ, ◌+◌, ◌<◌, ◌≤◌, ◌↔◌, Bool, true, false, List, [], ◌∷◌, ◌++◌, take, length, get_or, sym, subst, ap, ◌∙◌, Some, arith, inl, inr, ◌⊎◌}
use Rattle.std.specs.Prelude.{AllPairs, Contains, slice_get}
use Rattle.std.proofs.Math.ListN.{length-take}
use Rattle.std.proofs.lemmas.List.{get_or-take, take_all, take_more}
use Rattle.std.proofs.lemmas.Option.{get_or_from_slice_get, slice_get-get_or}
use Rattle.std.proofs.lemmas.List.Elements.{Contains-append_left, Contains-push, Contains-push_cases}
use Rattle.step_table.specs.Search.{IsSeen}
use Rattle.step_table.specs.Table.{IsStep}
use Rattle.step_table.proofs.Meeting.{a_step}
use Rattle.step_table.proofs.Places.{place_cases, place_last, place_left}
use Rattle.step_table.proofs.Seen.{in_none}

-- Those of the positions of which something holds.
abbrev pub AreChosen : (ℕ → Type 0) → (positions list : List ℕ) → Type 0
AreChosen P positions list = (x : ℕ) → Contains list x ↔ (Contains positions x × P x)

pub chosen_none : (P : ℕ → Type 0) (list : List ℕ) → list ≡ [] → AreChosen P [] list
chosen_none P list e x = (
  λ c. absurd (in_none x (subst (λ (xs : List ℕ). Contains xs x) e c)),
  λ (c, holds). absurd (in_none x c),
)

chosen_push : (P : ℕ → Type 0) (positions list : List ℕ) (one : ℕ) → AreChosen P positions list → P one →
    AreChosen P (positions ++ one ∷ []) (list ++ one ∷ [])
chosen_push P positions list one are holds x = (
  λ c. elim (Contains-push_cases list one x c) as (λ _. Contains (positions ++ one ∷ []) x × P x) [
    | inl p ↦ let (among, held) = (are x).0 p in (Contains-append_left positions (one ∷ []) x among, held)
    | inr e ↦ subst (λ (at : ℕ). Contains (positions ++ one ∷ []) at × P at) e (Contains-push positions one, holds)
  ],
  λ (c, held). elim (Contains-push_cases positions one x c) as (λ _. Contains (list ++ one ∷ []) x) [
    | inl p ↦ Contains-append_left list (one ∷ []) x ((are x).1 (p, held))
    | inr e ↦ subst (Contains (list ++ one ∷ [])) e (Contains-push list one)
  ],
)

chosen_skip : (P : ℕ → Type 0) (positions list : List ℕ) (one : ℕ) → AreChosen P positions list → (P one → ⊥) →
    AreChosen P (positions ++ one ∷ []) list
chosen_skip P positions list one are fails x = (
  λ c. let (among, held) = (are x).0 c in (Contains-append_left positions (one ∷ []) x among, held),
  λ (c, held). elim (Contains-push_cases positions one x c) as (λ _. Contains list x) [
    | inl p ↦ (are x).1 (p, held)
    | inr e ↦ absurd (fails (subst P (sym e) held))
  ],
)

pub chosen_more : (P : ℕ → Type 0) (xs : List ℕ) (i : ℕ) (list : List ℕ) → i < length xs → AreChosen P (take i xs) list →
    P (get_or xs i 0) → AreChosen P (take (i + 1) xs) (list ++ get_or xs i 0 ∷ [])
chosen_more P xs i list inside are holds =
    subst (λ (ys : List ℕ). AreChosen P ys (list ++ get_or xs i 0 ∷ [])) (sym (take_more xs i 0 inside))
    (chosen_push P (take i xs) list (get_or xs i 0) are holds)

pub chosen_same : (P : ℕ → Type 0) (xs : List ℕ) (i : ℕ) (list : List ℕ) → i < length xs → AreChosen P (take i xs) list →
    (P (get_or xs i 0) → ⊥) → AreChosen P (take (i + 1) xs) list
chosen_same P xs i list inside are fails =
    subst (λ (ys : List ℕ). AreChosen P ys list) (sym (take_more xs i 0 inside))
    (chosen_skip P (take i xs) list (get_or xs i 0) are fails)

pub chosen_end : (P : ℕ → Type 0) (xs : List ℕ) (i : ℕ) (list : List ℕ) → length xs ≤ i → AreChosen P (take i xs) list →
    AreChosen P xs list
chosen_end P xs i list end are = subst (λ (ys : List ℕ). AreChosen P ys list) (take_all i xs end) are

-- All positions are chosen.
pub chosen_all : (P : ℕ → Type 0) (positions list : List ℕ) → list ≡ positions → ((x : ℕ) → Contains positions x → P x) →
    AreChosen P positions list
chosen_all P positions list e holds x = (
  λ c. let among : Contains positions x = subst (λ (xs : List ℕ). Contains xs x) e c in (among, holds x among),
  λ (among, held). subst (λ (xs : List ℕ). Contains xs x) (sym e) among,
)

-- The same by another fact that holds of the same positions.
pub chosen_as : (P Q : ℕ → Type 0) (positions list : List ℕ) → AreChosen P positions list → ((x : ℕ) → P x ↔ Q x) →
    AreChosen Q positions list
chosen_as P Q positions list are same x = (
  λ c. let (among, holds) = (are x).0 c in (among, (same x).0 holds),
  λ (among, holds). (are x).1 (among, (same x).1 holds),
)

told : (seen : List Bool) (x : ℕ) (b : Bool) → x < length seen → get_or seen x false ≡ b → slice_get seen x ≡ Some b
told seen x b inside e = slice_get-get_or seen x false inside ∙ ap (λ (c : Bool). Some c) e

pub seen_by : (seen : List Bool) (x : ℕ) → x < length seen → get_or seen x false ≡ true → IsSeen seen x
seen_by seen x inside e = told seen x true inside e

pub unseen_from : (seen : List Bool) (x : ℕ) → x < length seen → get_or seen x false ≡ false → IsSeen seen x → ⊥
unseen_from seen x inside e h = let same : Some true ≡ Some false = sym h ∙ told seen x false inside e in cc

-- Each of the first items of a list, and the one behind them.
pub pair_before : (R : ℕ → ℕ → Type 0) (xs : List ℕ) (i : ℕ) → AllPairs R xs → i < length xs → (x : ℕ) →
    Contains (take i xs) x → R x (get_or xs i 0)
pair_before R xs i pairs inside x (k, less, e) =
    let before : k < i = omega (arith, less, length-take i xs) in
    let at : get_or xs k x ≡ x = sym (get_or-take i xs k x before) ∙ e in
    let same : get_or xs i x ≡ get_or xs i 0 =
    get_or_from_slice_get xs i (get_or xs i 0) x (slice_get-get_or xs i 0 inside) in
    subst (λ (y : ℕ). R y (get_or xs i 0)) at (subst (R (get_or xs k x)) same (pairs k i x before inside))

-- Steps of lists that have one more list at their end.
pub step_old : (lists : List (List ℕ)) (list : List ℕ) (from to : ℕ) → IsStep lists from to → IsStep (lists ++ list ∷ []) from to
step_old lists list from to step =
    a_step (lists ++ list ∷ []) from to step.steps (place_left lists (list ∷ []) from step.steps step.there) step.goes

pub step_new : (lists : List (List ℕ)) (list : List ℕ) (from to : ℕ) → length lists ≡ from → Contains list to →
    IsStep (lists ++ list ∷ []) from to
step_new lists list from to e c =
    a_step (lists ++ list ∷ []) from to list
    (subst (λ (at : ℕ). slice_get (lists ++ list ∷ []) at ≡ Some list) e (place_last lists list)) c

pub step_cases : (lists : List (List ℕ)) (list : List ℕ) (from to : ℕ) → IsStep (lists ++ list ∷ []) from to →
    IsStep lists from to ⊎ ((from ≡ length lists) × Contains list to)
step_cases lists list from to step = elim (place_cases lists list from step.steps step.there)
    as (λ _. IsStep lists from to ⊎ ((from ≡ length lists) × Contains list to)) [
      | inl there ↦ inl (a_step lists from to step.steps there step.goes)
      | inr both ↦ inr (both.0, subst (λ (xs : List ℕ). Contains xs to) (sym both.1) step.goes)
    ]
