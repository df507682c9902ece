-- The positions of addresses that rise.
use Rattle.std.proofs.Common.{◌≡◌, ℕ, ◌<◌, ◌≤◌, List, [], ◌∷◌, ◌++◌, length, get_or, Option, Some, Result, Ok, Err, sym, subst, ap, ◌∙◌, arith, inl, inr, ◌⊎◌}
use Rattle.std.specs.Prelude.{AllPairs, Contains, slice_get}
use Rattle.std.specs.List.{AllZip}
use Rattle.std.specs.List.Sorted.{IsBinarySearchResult}
use Rattle.std.specs.Ordering.{nat_cmp}
use Rattle.std.specs.Result.{MatchResult, result_ok}
use Rattle.std.proofs.lemmas.Bool.{cases_lt, cases_eq}
use Rattle.std.proofs.lemmas.List.Sorted.{searched}
use Rattle.std.proofs.lemmas.Option.{get_or_from_slice_get, slice_get-get_or, slice_get_within}
use Rattle.std.proofs.lemmas.List.Elements.{Contains-append_left, Contains-push, Contains-push_cases}
use Rattle.step_table.specs.Table.{AreStepsTo, IsNamed, IsPosition}
use Rattle.step_table.proofs.Seen.{in_none}

abbrev pub Rises : List ℕ → Type 0
Rises addresses = AllPairs (λ (a b : ℕ). a < b) addresses

pub rises_between : (xs : List ℕ) → Rises xs → (i j : ℕ) → i ≤ j → j < length xs → get_or xs i 0 ≤ get_or xs j 0
rises_between xs rising i j h within = elim (cases_lt i j) [
  | inl less ↦ omega (arith, rising i j 0 less within)
  | inr more ↦ let e : i ≡ j = omega arith in subst (λ (at : ℕ). get_or xs i 0 ≤ get_or xs at 0) e (omega arith)
]

-- A number stands at one place alone.
pub same_place : (xs : List ℕ) → Rises xs → (i j a : ℕ) → slice_get xs i ≡ Some a → slice_get xs j ≡ Some a → i ≡ j
same_place xs rising i j a h k = elim (cases_lt i j) [
  | inl less ↦ absurd (apart i j less h k)
  | inr more ↦ elim (cases_eq i j) [
    | inl e ↦ e
    | inr differ ↦ absurd (apart j i (omega (arith, more, differ)) k h)
  ]
]
  where
    apart : (x y : ℕ) → x < y → slice_get xs x ≡ Some a → slice_get xs y ≡ Some a → ⊥
    apart x y less f g =
        omega (
          arith,
          rising x y a less (slice_get_within xs y a g),
          get_or_from_slice_get xs x a a f,
          get_or_from_slice_get xs y a a g,
        )

-- What a list contains stands at a place, and the other way round.
pub place_of : {X : Type 0} (xs : List X) (x : X) → Contains xs x → (k : ℕ) × (slice_get xs k ≡ Some x)
place_of {X} xs x (k, inside, e) = (k, slice_get-get_or xs k x inside ∙ ap (λ (a : X). Some a) e)

pub contains_at : {X : Type 0} (xs : List X) (k : ℕ) (x : X) → slice_get xs k ≡ Some x → Contains xs x
contains_at xs k x h = (k, slice_get_within xs k x h, get_or_from_slice_get xs k x x h)

number_at : (xs : List ℕ) (k x : ℕ) → slice_get xs k ≡ Some x → get_or xs k 0 ≡ x
number_at xs k x h = get_or_from_slice_get xs k x 0 h

-- What a search among rising numbers found.
found : (xs : List ℕ) (x : ℕ) (result : Result ℕ ℕ) →
    MatchResult result (λ i. (i < length xs) × (get_or xs i 0 ≡ x))
    (λ i. (i ≤ length xs) × ((k : ℕ) → k < i → get_or xs k 0 < x) × ((k : ℕ) → i ≤ k → k < length xs → x < get_or xs k 0)) →
    (option : Option ℕ) → result_ok result ≡ option → IsPosition xs x option
found xs x (Ok i) h option e =
    subst (IsPosition xs x) e (slice_get-get_or xs i 0 h.0 ∙ ap (λ (a : ℕ). Some a) h.1)
found xs x (Err i) h option e = subst (IsPosition xs x) e absent
  where
    absent : Contains xs x → ⊥
    absent c = let (k, there) = place_of xs x c in elim (cases_lt k i) [
      | inl less ↦ omega (arith, h.1 k less, number_at xs k x there)
      | inr more ↦ omega (arith, h.2 k more (slice_get_within xs k x there), number_at xs k x there)
    ]

pub position_found : (xs : List ℕ) (x : ℕ) (result : Result ℕ ℕ) → Rises xs →
    IsBinarySearchResult (λ y. nat_cmp y x) xs result → (option : Option ℕ) → option ≡ result_ok result →
    IsPosition xs x option
position_found xs x result rising h option e =
    found xs x result (searched xs x result h (rises_between xs rising)) option (sym e)

-- One address more, with a unit or without one.
pub steps_same : (addresses onward steps : List ℕ) (address : ℕ) → (Contains addresses address → ⊥) →
    AreStepsTo addresses onward steps → AreStepsTo addresses (onward ++ address ∷ []) steps
steps_same addresses onward steps address absent are to = (on, back)
  where
    on : Contains steps to → IsNamed addresses (onward ++ address ∷ []) to
    on c = let (a, there, among) = (are to).0 c in (a, there, Contains-append_left onward (address ∷ []) a among)

    back_by : (a : ℕ) → slice_get addresses to ≡ Some a → Contains onward a ⊎ (address ≡ a) → Contains steps to
    back_by a there (inl among) = (are to).1 (a, there, among)
    back_by a there (inr e) = absurd (absent (subst (Contains addresses) (sym e) (contains_at addresses to a there)))

    back : IsNamed addresses (onward ++ address ∷ []) to → Contains steps to
    back (a, there, among) = back_by a there (Contains-push_cases onward address a among)

pub steps_more : (addresses onward steps : List ℕ) (address position : ℕ) → Rises addresses →
    slice_get addresses position ≡ Some address → AreStepsTo addresses onward steps →
    AreStepsTo addresses (onward ++ address ∷ []) (steps ++ position ∷ [])
steps_more addresses onward steps address position rising at are to = (on, back)
  where
    on_by : Contains steps to ⊎ (position ≡ to) → IsNamed addresses (onward ++ address ∷ []) to
    on_by (inl c) = let (a, there, among) = (are to).0 c in (a, there, Contains-append_left onward (address ∷ []) a among)
    on_by (inr e) =
        (address, subst (λ (p : ℕ). slice_get addresses p ≡ Some address) e at, Contains-push onward address)

    on : Contains (steps ++ position ∷ []) to → IsNamed addresses (onward ++ address ∷ []) to
    on c = on_by (Contains-push_cases steps position to c)

    back_by : (a : ℕ) → slice_get addresses to ≡ Some a → Contains onward a ⊎ (address ≡ a) →
        Contains (steps ++ position ∷ []) to
    back_by a there (inl among) = Contains-append_left steps (position ∷ []) to ((are to).1 (a, there, among))
    back_by a there (inr e) =
        let same : position ≡ to = same_place addresses rising position to address at (subst (λ (x : ℕ). slice_get addresses to ≡ Some x) (sym e) there) in
        subst (Contains (steps ++ position ∷ [])) same (Contains-push steps position)

    back : IsNamed addresses (onward ++ address ∷ []) to → Contains (steps ++ position ∷ []) to
    back (a, there, among) = back_by a there (Contains-push_cases onward address a among)

pub steps_none : (addresses steps : List ℕ) → steps ≡ [] → AreStepsTo addresses [] steps
steps_none addresses steps e to = (
  λ c. absurd (in_none to (subst (λ (xs : List ℕ). Contains xs to) e c)),
  λ (a, there, among). absurd (in_none a among),
)

pub zip_push : {A B : Type 0} (R : A → B → Type 0) (xs : List A) (ys : List B) (x : A) (y : B) → AllZip R xs ys → R x y →
    AllZip R (xs ++ x ∷ []) (ys ++ y ∷ [])
zip_push R [] [] x y all more = (more, tt)
zip_push R [] (b ∷ ys) x y all more = absurd all
zip_push R (a ∷ xs) [] x y all more = absurd all
zip_push R (a ∷ xs) (b ∷ ys) x y all more = (all.0, zip_push R xs ys x y all.1 more)
