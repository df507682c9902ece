-- What lists hold: short ones, those that a test leaves, and the images of others.
use Rattle.std.proofs.Common.{◌≡◌, Bool, true, false, cond, List, [], ◌∷◌, map, filter, zero, suc, refl, ap, ◌∙◌, arith}
use Rattle.std.specs.Prelude.{Contains}
use Rattle.std.proofs.lemmas.List.Elements.{Contains-append_right}

-- What an empty list holds, and one of one item.
pub in_none : {X : Type 0} (x : X) → Contains [] x → ⊥
in_none x (k, inside, e) = omega arith

pub alone : {X : Type 0} (a x : X) → Contains (a ∷ []) x → a ≡ x
alone a x (zero, inside, e) = e
alone a x (suc k, inside, e) = absurd (omega arith)

pub itself : {X : Type 0} (a : X) → Contains (a ∷ []) a
itself a = (0, omega arith, refl)

tail : {X : Type 0} (y x : X) (xs : List X) → Contains xs x → Contains (y ∷ xs) x
tail y x xs h = Contains-append_right (y ∷ []) xs x h

behind : {X : Type 0} (test : X → Bool) (y x : X) (xs : List X) (b : Bool) → Contains (filter test xs) x →
    Contains (cond b (y ∷ filter test xs) (filter test xs)) x
behind test y x xs true h = tail y x (filter test xs) h
behind test y x xs false h = h

-- What is in a list and passes the test is among what is kept.
pub filter_whole : {X : Type 0} (test : X → Bool) (xs : List X) (x : X) → Contains xs x → test x ≡ true →
    Contains (filter test xs) x
filter_whole test [] x (k, inside, e) passes = absurd (omega arith)
filter_whole test (y ∷ xs) x (zero, inside, e) passes = head (test y) (ap test e ∙ passes)
  where
    head : (b : Bool) → b ≡ true → Contains (cond b (y ∷ filter test xs) (filter test xs)) x
    head true same = (0, omega arith, e)
    head false same = cc
filter_whole test (y ∷ xs) x (suc k, inside, e) passes =
    behind test y x xs (test y) (filter_whole test xs x (k, omega arith, e) passes)

-- An image of what is in a list is in the list of the images.
pub Contains-map : {X Y : Type 0} (f : X → Y) (xs : List X) (x : X) → Contains xs x → Contains (map f xs) (f x)
Contains-map f [] x (k, inside, e) = absurd (omega arith)
Contains-map f (y ∷ xs) x (zero, inside, e) = (0, omega arith, ap f e)
Contains-map f (y ∷ xs) x (suc k, inside, e) =
    tail (f y) (f x) (map f xs) (Contains-map f xs x (k, omega arith, e))

-- An item that a mapped list's item comes from.
pub preimage : {X Y : Type 0} (f : X → Y) (xs : List X) (y : Y) → Contains (map f xs) y →
    (x : X) × Contains xs x × (f x ≡ y)
preimage f [] y (k, inside, e) = absurd (omega arith)
preimage f (x ∷ xs) y (zero, inside, e) = (x, (0, omega arith, refl), e)
preimage f (x ∷ xs) y (suc k, inside, e) =
    let rest = preimage f xs y (k, omega arith, e) in
    (rest.0, Contains-append_right (x ∷ []) xs rest.0 rest.1, rest.2)
