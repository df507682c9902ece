-- What stands at the places of lists, and in lists that are mapped or joined.
use Rattle.std.proofs.Common.{◌≡◌, ℕ, zero, suc, ◌+◌, ◌<◌, ◌⊎◌, inl, inr, List, [], ◌∷◌, ◌++◌, length, map, drop, get_or, slice_get, AllPairs, Contains, Some, refl, ap, subst, ◌∙◌, arith}
use Rattle.std.proofs.lemmas.Option.{get_or_from_slice_get, none-some, same_Some, slice_get-get_or, slice_get_within}
use Rattle.loop_nest.proofs.Ordered.{cases-in, first-in, later-in, nothing-in}

-- What stands among the images of a list is the image of what stands there.
pub mapped_at : {X Y : Type 0} (f : X → Y) (xs : List X) (k : ℕ) (y : Y) → slice_get (map f xs) k ≡ Some y →
    (x : X) × (slice_get xs k ≡ Some x) × (f x ≡ y)
mapped_at f [] k y h = absurd (none-some y h)
mapped_at f (x ∷ xs) zero y h = (x, refl, same_Some (f x) y h)
mapped_at f (x ∷ xs) (suc k) y h = mapped_at f xs k y h

pub map_at : {X Y : Type 0} (f : X → Y) (xs : List X) (k : ℕ) (x : X) → slice_get xs k ≡ Some x → slice_get (map f xs) k ≡ Some (f x)
map_at f [] k x h = absurd (none-some x h)
map_at {Y = Y} f (y ∷ ys) zero x h = ap (λ z. Some (f z)) (same_Some y x h)
map_at f (y ∷ ys) (suc k) x h = map_at f ys k x h

-- What mapped lists contain.
pub in-map : {S T : Type 0} (f : S → T) (xs : List S) (x : S) → Contains xs x → Contains (map f xs) (f x)
in-map f [] x there = absurd (nothing-in x there)
in-map {S} {T} f (one ∷ more) x there = elim (cases-in one more x there) [
  | inl here ↦ subst (λ (y : S). Contains (map f (one ∷ more)) (f y)) here (first-in (f one) (map f more))
  | inr behind ↦ later-in (f one) (map f more) (f x) (in-map f more x behind)
]

pub from-map : {S T : Type 0} (f : S → T) (xs : List S) (y : T) → Contains (map f xs) y → (x : S) × Contains xs x × (f x ≡ y)
from-map f [] y there = absurd (nothing-in y there)
from-map f (one ∷ more) y there = elim (cases-in (f one) (map f more) y there) [
  | inl here ↦ (one, first-in one more, here)
  | inr behind ↦ let rest = from-map f more y behind in (rest.0, later-in one more rest.0 rest.1, rest.2)
]

-- What stands in the second of two lists that are joined, and in the first.
pub behind-at : {X : Type 0} (xs ys : List X) (k : ℕ) → slice_get (xs ++ ys) (length xs + k) ≡ slice_get ys k
behind-at [] ys k = ap (λ (n : ℕ). slice_get ys n) (omega arith)
behind-at {X} (x ∷ xs) ys k =
    let e : length (x ∷ xs) + k ≡ suc (length xs + k) = omega arith in
    ap (λ (n : ℕ). slice_get (x ∷ (xs ++ ys)) n) e ∙ behind-at xs ys k

pub front-at : {X : Type 0} (xs ys : List X) (k : ℕ) → k < length xs → slice_get (xs ++ ys) k ≡ slice_get xs k
front-at [] ys k less = absurd (omega (arith, less))
front-at (x ∷ xs) ys zero less = refl
front-at (x ∷ xs) ys (suc k) less = front-at xs ys k (omega (arith, less))

pub place_right : {X : Type 0} (xs ys : List X) (k : ℕ) (y : X) → slice_get ys k ≡ Some y → slice_get (xs ++ ys) (length xs + k) ≡ Some y
place_right xs ys k y h = behind-at xs ys k ∙ h

pub record StandsRight {X : Type 0} (xs ys : List X) (place : ℕ) (y : X) : Type 0 where
  pub at : ℕ
  pub behind : place ≡ length xs + at
  pub there : slice_get ys at ≡ Some y

pub place_joined : {X : Type 0} (xs ys : List X) (place : ℕ) (y : X) → slice_get (xs ++ ys) place ≡ Some y →
    (slice_get xs place ≡ Some y) ⊎ StandsRight xs ys place y
place_joined [] ys place y h = inr (record { at = place; behind = omega arith; there = h })
place_joined (x ∷ xs) ys zero y h = inl h
place_joined (x ∷ xs) ys (suc place) y h = elim (place_joined xs ys place y h)
    as (λ _. (slice_get xs place ≡ Some y) ⊎ StandsRight (x ∷ xs) ys (suc place) y) [
      | inl left ↦ inl left
      | inr right ↦ inr (record { at = right.at; behind = omega (arith, right.behind); there = right.there })
    ]

-- Pairs of a list by their places.
pub pair_at : {X : Type 0} (R : X → X → Type 0) (xs : List X) → AllPairs R xs → (i j : ℕ) (a b : X) → i < j →
    slice_get xs i ≡ Some a → slice_get xs j ≡ Some b → R a b
pair_at {X} R xs pairs i j a b less one other =
    subst (λ (x : X). R x b) (get_or_from_slice_get xs i a a one)
    (subst (λ (y : X). R (get_or xs i a) y) (get_or_from_slice_get xs j b a other) (pairs i j a less (slice_get_within xs j b other)))

pub pairs_by : {X : Type 0} (R : X → X → Type 0) (xs : List X) →
    ((i j : ℕ) (a b : X) → i < j → slice_get xs i ≡ Some a → slice_get xs j ≡ Some b → R a b) → AllPairs R xs
pairs_by R xs each i j d less within =
    each i j (get_or xs i d) (get_or xs j d) less (slice_get-get_or xs i d (omega (arith, less, within))) (slice_get-get_or xs j d within)

-- What stands behind the first item.
pub behind_first : {X : Type 0} (xs : List X) (i : ℕ) → slice_get (drop 1 xs) i ≡ slice_get xs (suc i)
behind_first [] i = refl
behind_first (x ∷ xs) i = refl
