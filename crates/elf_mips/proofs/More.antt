-- Lists that grow by one item for each number.
use Rattle.std.proofs.Common.{◌≡◌, ℕ, ◌+◌, ◌<◌, ◌≤◌, Bool, true, false, List, [], ◌∷◌, ◌++◌, map, find, Option, Some, None, zero, suc, refl, sym, ◌∙◌, ap, zero-add, append_assoc, arith, inl, inr, ◌⊎◌}
use Rattle.std.specs.List.{range_with_len, filter_map, cons_option}
use Rattle.std.proofs.lemmas.Bool.{cases_eq, cond-true, cond-false}
use Rattle.std.proofs.lemmas.List.{map-append}
use Rattle.std.proofs.lemmas.List.Elements.{filter_map-append}
use Rattle.std.proofs.lemmas.List.FromFn.{map-range_with_len_more}

-- One more item behind a front.
pub map_more : {X : Type 0} (g : ℕ → X) (f : ℕ → ℕ) (n : ℕ) (front all : List X) →
    all ≡ front ++ map g (map f (range_with_len 0 n)) →
    all ++ g (f n) ∷ [] ≡ front ++ map g (map f (range_with_len 0 (n + 1)))
map_more g f n front all e =
    ap (λ items. items ++ g (f n) ∷ []) e
    ∙ append_assoc front (map g (map f (range_with_len 0 n))) (g (f n) ∷ [])
    ∙ ap (λ items. front ++ items)
    (sym (ap (map g) (map-range_with_len_more f 0 n n (zero-add n))
    ∙ map-append g (map f (range_with_len 0 n)) (f n ∷ [])))

-- One more entry, which may give an item.
pub filter_map_more : {X : Type 0} (h : ℕ → Option X) (f : ℕ → ℕ) (n : ℕ) (all : List X) →
    all ≡ filter_map h (map f (range_with_len 0 n)) →
    all ++ cons_option (h (f n)) [] ≡ filter_map h (map f (range_with_len 0 (n + 1)))
filter_map_more h f n all e =
    ap (λ items. items ++ cons_option (h (f n)) []) e
    ∙ sym (ap (filter_map h) (map-range_with_len_more f 0 n n (zero-add n))
    ∙ filter_map-append h (map f (range_with_len 0 n)) (f n ∷ []))

-- The first that passes.
find_cases : (p : ℕ → Bool) (f : ℕ → ℕ) (a n i : ℕ) → a ≤ i →
    ((k : ℕ) → a ≤ k → k < i → p (f k) ≡ false) → p (f i) ≡ true →
    (a < i → find p (map f (range_with_len (a + 1) n)) ≡ Some (f i)) →
    (a ≡ i) ⊎ (a ≡ i → ⊥) → find p (map f (range_with_len a (suc n))) ≡ Some (f i)
find_cases p f a n i low before is later (inl e) =
    cond-true (p (f a)) (Some (f a)) (find p (map f (range_with_len (a + 1) n)))
    (ap (λ k. p (f k)) e ∙ is)
    ∙ ap (λ k. Some (f k)) e
find_cases p f a n i low before is later (inr differ) =
    let less : a < i = omega arith in
    cond-false (p (f a)) (Some (f a)) (find p (map f (range_with_len (a + 1) n)))
    (before a (omega arith) less)
    ∙ later less

pub find_first : (p : ℕ → Bool) (f : ℕ → ℕ) (a n i : ℕ) → a ≤ i → i < a + n →
    ((k : ℕ) → a ≤ k → k < i → p (f k) ≡ false) → p (f i) ≡ true →
    find p (map f (range_with_len a n)) ≡ Some (f i)
find_first p f a zero i low high before is = absurd (omega arith)
find_first p f a (suc n) i low high before is =
    find_cases p f a n i low before is
    (λ less. find_first p f (a + 1) n i (omega arith) (omega arith)
    (λ k l h. before k (omega arith) h) is)
    (cases_eq a i)

pub find_no : (p : ℕ → Bool) (f : ℕ → ℕ) (a n : ℕ) →
    ((k : ℕ) → a ≤ k → k < a + n → p (f k) ≡ false) → find p (map f (range_with_len a n)) ≡ None
find_no p f a zero none = refl
find_no p f a (suc n) none =
    cond-false (p (f a)) (Some (f a)) (find p (map f (range_with_len (a + 1) n)))
    (none a (omega arith) (omega arith))
    ∙ find_no p f (a + 1) n (λ k l h. none k (omega arith) (omega arith))

-- None of one more passes.
no_cases : (p : ℕ → Bool) (n k : ℕ) → ((k : ℕ) → k < n → p k ≡ false) → p n ≡ false → k < n + 1 →
    (k ≡ n) ⊎ (k ≡ n → ⊥) → p k ≡ false
no_cases p n k all last h (inl e) = ap p e ∙ last
no_cases p n k all last h (inr differ) = all k (omega arith)

pub no_more : (p : ℕ → Bool) (n : ℕ) → ((k : ℕ) → k < n → p k ≡ false) → p n ≡ false →
    (k : ℕ) → k < n + 1 → p k ≡ false
no_more p n all last k h = no_cases p n k all last h (cases_eq k n)
