-- What `find` gives where at most one item can pass.
use Rattle.std.proofs.Common.{◌≡◌, ℕ, ◌<◌, Bool, true, false, List, [], ◌∷◌, length, Some, None, zero, suc, find, get_or, refl, sym, ◌∙◌, subst, if◌then◌else◌, arith, inl, inr, ◌⊎◌}
use Rattle.std.proofs.lemmas.Bool.{cases_Bool, cond-true, cond-false, false_from_ne_true}

-- No item passes.
pub find_none : {X : Type 0} (test : X → Bool) (xs : List X) →
    ((j : ℕ) (d : X) → j < length xs → test (get_or xs j d) ≡ true → ⊥) → find test xs ≡ None
find_none test [] none = refl
find_none test (x ∷ xs) none =
    cond-false (test x) (Some x) (find test xs)
    (false_from_ne_true (test x) (λ e. none 0 x (omega arith) e))
    ∙ find_none test xs (λ j d h e. none (suc j) d (omega arith) e)

only_first : {X : Type 0} (test : X → Bool) (x : X) (xs : List X) →
    ((j : ℕ) (d : X) → j < length (x ∷ xs) → test (get_or (x ∷ xs) j d) ≡ true → j ≡ 0) →
    (test x ≡ true) ⊎ (test x ≡ false) →
    find test (x ∷ xs) ≡ (if test x then Some x else None)
only_first test x xs only (inl e) =
    cond-true (test x) (Some x) (find test xs) e ∙ sym (cond-true (test x) (Some x) None e)
only_first test x xs only (inr e) =
    cond-false (test x) (Some x) (find test xs) e
    ∙ find_none test xs
    (λ j d h t. absurd (let far : suc j ≡ 0 = only (suc j) d (omega arith) t in omega arith))
    ∙ sym (cond-false (test x) (Some x) None e)

-- Only the item at k can pass.
pub find_only : {X : Type 0} (test : X → Bool) (xs : List X) (k : ℕ) (x : X) → k < length xs →
    get_or xs k x ≡ x →
    ((j : ℕ) (d : X) → j < length xs → test (get_or xs j d) ≡ true → j ≡ k) →
    find test xs ≡ (if test x then Some x else None)
find_only test [] k x h e only = absurd (omega arith)
find_only test (y ∷ xs) zero x h e only =
    subst (λ v. find test (y ∷ xs) ≡ (if test v then Some v else None)) e
    (only_first test y xs only (cases_Bool (test y)))
find_only test (y ∷ xs) (suc k) x h e only =
    cond-false (test y) (Some y) (find test xs)
    (false_from_ne_true (test y)
    (λ t. let far : 0 ≡ suc k = only 0 y (omega arith) t in omega arith))
    ∙ find_only test xs k x (omega arith) e
    (λ j d l t. let same : suc j ≡ suc k = only (suc j) d (omega arith) t in omega arith)
