-- Rules of things that are numbered: the first bad one breaks the first broken rule.
use Rattle.std.proofs.Common.{◌≡◌, ℕ, ◌+◌, ◌<◌, ◌≤◌, Bool, true, false, List, map, Some, None, zero, suc, refl, ◌∙◌, ap, arith, inl, inr, ◌⊎◌}
use Rattle.std.specs.List.{range_with_len}
use Rattle.std.proofs.lemmas.Bool.{cases_eq, cond-true, cond-false}
use Rattle.elf_mips.specs.Rules.{Rule, rule, first_place}
use Rattle.elf_mips.proofs.Firsts.{Rises}

-- The rules of n things from the one of number a on.
abbrev pub numbered : (ℕ → Bool) → (ℕ → ℕ) → ℕ → ℕ → List Rule
numbered good place a n =
    map (λ number. rule (good number) (place number)) (range_with_len a n)

pub rises_numbered : (good : ℕ → Bool) (place : ℕ → ℕ) → ((k : ℕ) → place k ≤ place (k + 1)) →
    (low a n : ℕ) → low ≤ place a → Rises low (numbered good place a n)
rises_numbered good place up low a zero h = tt
rises_numbered good place up low a (suc n) h =
    (h, rises_numbered good place up (place a) (a + 1) n (up a))

-- Where all are good, no rule is broken.
pub none_bad : (good : ℕ → Bool) (place : ℕ → ℕ) (a n : ℕ) →
    ((k : ℕ) → a ≤ k → k < a + n → good k ≡ true) → first_place (numbered good place a n) ≡ None
none_bad good place a zero all = refl
none_bad good place a (suc n) all =
    cond-true (good a) (first_place (numbered good place (a + 1) n)) (Some (place a))
    (all a (omega arith) (omega arith))
    ∙ none_bad good place (a + 1) n (λ k low high. all k (omega arith) (omega arith))

-- Where all before one are good, and it isn't, its rule is the first broken one.
first_cases : (good : ℕ → Bool) (place : ℕ → ℕ) (a n i : ℕ) → a ≤ i →
    ((k : ℕ) → a ≤ k → k < i → good k ≡ true) → good i ≡ false →
    (a < i → first_place (numbered good place (a + 1) n) ≡ Some (place i)) →
    (a ≡ i) ⊎ (a ≡ i → ⊥) → first_place (numbered good place a (suc n)) ≡ Some (place i)
first_cases good place a n i low all bad later (inl e) =
    cond-false (good a) (first_place (numbered good place (a + 1) n)) (Some (place a))
    (ap good e ∙ bad)
    ∙ ap (λ k. Some (place k)) e
first_cases good place a n i low all bad later (inr differ) =
    let less : a < i = omega arith in
    cond-true (good a) (first_place (numbered good place (a + 1) n)) (Some (place a))
    (all a (omega arith) less)
    ∙ later less

pub first_bad : (good : ℕ → Bool) (place : ℕ → ℕ) (a n i : ℕ) → a ≤ i → i < a + n →
    ((k : ℕ) → a ≤ k → k < i → good k ≡ true) → good i ≡ false →
    first_place (numbered good place a n) ≡ Some (place i)
first_bad good place a zero i low high all bad = absurd (omega arith)
first_bad good place a (suc n) i low high all bad =
    first_cases good place a n i low all bad
    (λ less. first_bad good place (a + 1) n i (omega arith) (omega arith)
    (λ k l h. all k (omega arith) h) bad)
    (cases_eq a i)

-- One more is good.
good_cases : (good : ℕ → Bool) (n k : ℕ) → ((k : ℕ) → k < n → good k ≡ true) → good n ≡ true →
    k < n + 1 → (k ≡ n) ⊎ (k ≡ n → ⊥) → good k ≡ true
good_cases good n k all last h (inl e) = ap good e ∙ last
good_cases good n k all last h (inr differ) = all k (omega arith)

pub good_more : (good : ℕ → Bool) (n : ℕ) → ((k : ℕ) → k < n → good k ≡ true) → good n ≡ true →
    (k : ℕ) → k < n + 1 → good k ≡ true
good_more good n all last k h = good_cases good n k all last h (cases_eq k n)
