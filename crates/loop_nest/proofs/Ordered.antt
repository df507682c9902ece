-- Lists in a strict order: two of them with the same items are one list.
use Rattle.std.proofs.Common.{◌≡◌, ℕ, zero, suc, ◌⊎◌, inl, inr, List, [], ◌∷◌, length, slice_get, All, AllPairs, Contains, Some, refl, sym, ap, subst, ◌∙◌, arith}
use Rattle.std.proofs.lemmas.List.Elements.{All-contains, Contains-append_cases, Contains-append_right}

pub pairs-head : {T : Type 0} (R : T → T → Type 0) (x : T) (xs : List T) → AllPairs R (x ∷ xs) → All (R x) xs
pairs-head R x xs pairs = λ k d inside. pairs zero (suc k) d (omega arith) (omega arith)

pub pairs-tail : {T : Type 0} (R : T → T → Type 0) (x : T) (xs : List T) → AllPairs R (x ∷ xs) → AllPairs R xs
pairs-tail R x xs pairs = λ i j d less inside. pairs (suc i) (suc j) d (omega arith) (omega arith)

pub nothing-in : {T : Type 0} (x : T) → Contains [] x → ⊥
nothing-in x c = omega (arith, c.1)

pub only-in : {T : Type 0} (a x : T) → Contains (a ∷ []) x → a ≡ x
only-in a x (zero, less, same) = same
only-in a x (suc k, less, same) = absurd (omega (arith, less))

pub first-in : {T : Type 0} (x : T) (xs : List T) → Contains (x ∷ xs) x
first-in x xs = (0, omega arith, refl)

pub later-in : {T : Type 0} (a : T) (xs : List T) (x : T) → Contains xs x → Contains (a ∷ xs) x
later-in a xs x c = Contains-append_right (a ∷ []) xs x c

-- An item of a list is its first one, or stands behind it.
pub cases-in : {T : Type 0} (a : T) (xs : List T) (x : T) → Contains (a ∷ xs) x → (a ≡ x) ⊎ Contains xs x
cases-in a xs x c = by_case (Contains-append_cases (a ∷ []) xs x c) where
  by_case : Contains (a ∷ []) x ⊎ Contains xs x → (a ≡ x) ⊎ Contains xs x
  by_case (inl here) = inl (only-in a x here)
  by_case (inr there) = inr there

-- No two items stand before each other.
abbrev pub IsStrict : {T : Type 0} → (T → T → Type 0) → Type 0
IsStrict {T} R = (x y : T) → R x y → R y x → ⊥

same-first : {T : Type 0} (R : T → T → Type 0) → IsStrict R → (x y : T) (xs ys : List T) → AllPairs R (x ∷ xs) → AllPairs R (y ∷ ys) →
    ((x ≡ y) ⊎ Contains xs y) → ((y ≡ x) ⊎ Contains ys x) → x ≡ y
same-first R strict x y xs ys one other (inl same) second = same
same-first R strict x y xs ys one other (inr there) (inl same) = sym same
same-first R strict x y xs ys one other (inr there) (inr here) =
    absurd (strict x y (All-contains (R x) xs y (pairs-head R x xs one) there) (All-contains (R y) ys x (pairs-head R y ys other) here))

-- What stands behind the first item of one list stands behind that of the other.
same-rest : {T : Type 0} (R : T → T → Type 0) → IsStrict R → (x y z : T) (xs ys : List T) → AllPairs R (x ∷ xs) → x ≡ y →
    Contains xs z → ((y ≡ z) ⊎ Contains ys z) → Contains ys z
same-rest R strict x y z xs ys one same there (inl here) =
    let before : R x z = All-contains (R x) xs z (pairs-head R x xs one) there in
    let itself : R z z = subst (λ w. R w z) (same ∙ here) before in
    absurd (strict z z itself itself)
same-rest R strict x y z xs ys one same there (inr behind) = behind

pub ordered-same : {T : Type 0} (R : T → T → Type 0) → IsStrict R → (xs ys : List T) → AllPairs R xs → AllPairs R ys →
    ((x : T) → Contains xs x → Contains ys x) → ((x : T) → Contains ys x → Contains xs x) → xs ≡ ys
ordered-same R strict [] [] one other forward back = refl
ordered-same R strict [] (y ∷ ys) one other forward back = absurd (nothing-in y (back y (first-in y ys)))
ordered-same R strict (x ∷ xs) [] one other forward back = absurd (nothing-in x (forward x (first-in x xs)))
ordered-same R strict (x ∷ xs) (y ∷ ys) one other forward back =
    let same : x ≡ y =
    same-first R strict x y xs ys one other (cases-in x xs y (back y (first-in y ys))) (cases-in y ys x (forward x (first-in x xs))) in
    let rest : xs ≡ ys =
    ordered-same R strict xs ys (pairs-tail R x xs one) (pairs-tail R y ys other)
    (λ z there. same-rest R strict x y z xs ys one same there (cases-in y ys z (forward z (later-in x xs z there))))
    (λ z there. same-rest R strict y x z ys xs other (sym same) there (cases-in x xs z (back z (later-in y ys z there)))) in
    ap (λ w. w ∷ xs) same ∙ ap (λ ws. y ∷ ws) rest

-- Two lists of one length whose items of each position are one.
pub items-same : {T : Type 0} (xs ys : List T) → length xs ≡ length ys →
    ((i : ℕ) (x y : T) → slice_get xs i ≡ Some x → slice_get ys i ≡ Some y → x ≡ y) → xs ≡ ys
items-same [] [] count each = refl
items-same [] (y ∷ ys) count each = absurd (omega (arith, count))
items-same (x ∷ xs) [] count each = absurd (omega (arith, count))
items-same (x ∷ xs) (y ∷ ys) count each =
    ap (λ w. w ∷ xs) (each 0 x y refl refl)
    ∙ ap (λ ws. y ∷ ws) (items-same xs ys (omega (arith, count)) (λ i a b one other. each (suc i) a b one other))
