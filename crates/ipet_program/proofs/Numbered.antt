-- Lists over the numbers from 1 up to a number.
use Rattle.std.proofs.Common.{◌≡◌, ℕ, zero, suc, ◌+◌, ◌-◌, ◌<◌, ◌≤◌, List, Some, [], ◌∷◌, ◌++◌, length, get_or, set, slice_get, All, refl, sym, ◌∙◌, ap, subst, inl, inr, arith, add-one}
use Rattle.std.proofs.lemmas.Bool.{cases_eq}
use Rattle.std.proofs.lemmas.List.{length_push, get_or_push, get_or_append_left, set_at, set-append_left}
use Rattle.std.proofs.lemmas.List.Elements.{All-nil, All-push}
use Rattle.flow_net.specs.Numbers.{item_at}
use Rattle.flow_net.proofs.Numbers.{item_at-there}
use Rattle.ipet_program.specs.Sums.{numbered}

pub numbered-more : {T : Type 0} (f : ℕ → T) (n : ℕ) →
    numbered f (n + 1) ≡ numbered f n ++ f (n + 1) ∷ []
numbered-more f n = rw add-one refl

pub length-numbered : {T : Type 0} (f : ℕ → T) (n : ℕ) → length (numbered f n) ≡ n
length-numbered f zero = refl
length-numbered f (suc n) =
    omega (arith, length_push (numbered f n) (f (suc n)), length-numbered f n)

-- Each number's item stands at its position.
pub numbered-get : {T : Type 0} (f : ℕ → T) (n k : ℕ) (d : T) → 1 ≤ k → k ≤ n →
    get_or (numbered f n) (k - 1) d ≡ f k
numbered-get f zero k d low high = absurd (omega arith)
numbered-get f (suc n) k d low high =
    elim (cases_eq k (suc n)) as (λ _. get_or (numbered f (suc n)) (k - 1) d ≡ f k) [
      | inl e ↦ get_or_push (numbered f n) (f (suc n)) d (k - 1)
          (omega (arith, length-numbered f n, e)) ∙ ap f (sym e)
      | inr differ ↦ get_or_append_left (numbered f n) (f (suc n) ∷ []) d (k - 1)
          (omega (arith, length-numbered f n, differ, high, low))
          ∙ numbered-get f n k d low (omega (arith, differ, high))
    ]

-- Lists of the same items are the same.
pub numbered-same : {T : Type 0} (f g : ℕ → T) (n : ℕ) →
    ((k : ℕ) → 1 ≤ k → k ≤ n → f k ≡ g k) → numbered f n ≡ numbered g n
numbered-same f g zero same = refl
numbered-same f g (suc n) same =
    let before : numbered f n ≡ numbered g n =
    numbered-same f g n (λ k low high. same k low (omega arith)) in
    let last : f (suc n) ≡ g (suc n) = same (suc n) (omega arith) (omega arith) in
    (cc)

-- A list with another item at one number.
pub numbered-set : {T : Type 0} (f g : ℕ → T) (n k : ℕ) → 1 ≤ k → k ≤ n →
    ((j : ℕ) → 1 ≤ j → j ≤ n → (j ≡ k → ⊥) → f j ≡ g j) →
    set (numbered f n) (k - 1) (g k) ≡ numbered g n
numbered-set f g zero k low high same = absurd (omega arith)
numbered-set f g (suc n) k low high same =
    elim (cases_eq k (suc n)) as (λ _. set (numbered f (suc n)) (k - 1) (g k) ≡ numbered g (suc n)) [
      | inl e ↦ set_at (numbered f n) (f (suc n)) [] (g k) (k - 1)
          (omega (arith, length-numbered f n, e))
          ∙ (let before : numbered f n ≡ numbered g n =
          numbered-same f g n (λ j least most. same j least (omega arith) (λ at. omega (arith, at, e))) in
          let last : g k ≡ g (suc n) = ap g e in
          (cc))
      | inr differ ↦ set-append_left (numbered f n) (f (suc n) ∷ []) (k - 1) (g k)
          (omega (arith, length-numbered f n, differ, high, low))
          ∙ (let before : set (numbered f n) (k - 1) (g k) ≡ numbered g n =
          numbered-set f g n k low (omega (arith, differ, high))
          (λ j least most other. same j least (omega arith) other) in
          let last : f (suc n) ≡ g (suc n) =
          same (suc n) (omega arith) (omega arith) (λ at. differ (sym at)) in
          (cc))
    ]

-- What holds of each number's item holds of all.
pub numbered-all : {T : Type 0} (P : T → Type 0) (f : ℕ → T) (n : ℕ) →
    ((k : ℕ) → 1 ≤ k → k ≤ n → P (f k)) → All P (numbered f n)
numbered-all P f zero each = All-nil P
numbered-all P f (suc n) each =
    All-push P (numbered f n) (f (suc n))
    (numbered-all P f n (λ k low high. each k low (omega arith)))
    (each (suc n) (omega arith) (omega arith))

-- One more item is pushed.
pub numbered-push : {T : Type 0} (f : ℕ → T) (n : ℕ) (before after : List T) (item : T) →
    before ≡ numbered f n → after ≡ before ++ item ∷ [] → item ≡ f (n + 1) → after ≡ numbered f (n + 1)
numbered-push f n before after item known pushed same =
    let more = numbered-more f n in
    (cc)

-- The item that a loop reads has the number behind its position.
pub item-read : {T : Type 0} (all items : List T) (index : ℕ) (d : T) → all ≡ items → index < length items →
    item_at (index + 1) all ≡ Some (get_or items index d)
item-read all items index d same within =
    subst (λ xs. item_at (index + 1) xs ≡ Some (get_or items index d)) (sym same)
    (subst (λ (at : ℕ). item_at (index + 1) items ≡ Some (get_or items at d)) (omega arith)
    (item_at-there items (index + 1) d (record { from_one = omega arith; within = omega arith })))

-- A position has the item of the number behind it.
pub numbered-read : {T : Type 0} (f : ℕ → T) (n : ℕ) (items : List T) (index : ℕ) (d : T) →
    items ≡ numbered f n → index < n → get_or items index d ≡ f (index + 1)
numbered-read f n items index d same within =
    subst (λ xs. get_or xs index d ≡ f (index + 1)) (sym same)
    (subst (λ (at : ℕ). get_or (numbered f n) at d ≡ f (index + 1)) (omega arith)
    (numbered-get f n (index + 1) d (omega arith) (omega arith)))

-- The item that is read at a number's position is that of the number.
pub item-number : {T : Type 0} (all items : List T) (number : ℕ) (d : T) → items ≡ all → 1 ≤ number →
    number ≤ length all → item_at number all ≡ Some (get_or items (number - 1) d)
item-number all items number d same low high =
    subst (λ xs. item_at number all ≡ Some (get_or xs (number - 1) d)) (sym same)
    (item_at-there all number d (record { from_one = low; within = high }))

-- What a list has at a place stays there when more follows.
pub get-front : {T : Type 0} (xs ys : List T) (i : ℕ) → i < length xs → slice_get (xs ++ ys) i ≡ slice_get xs i
get-front [] ys i less = absurd (omega arith)
get-front (x ∷ xs) ys zero less = refl
get-front (x ∷ xs) ys (suc i) less = get-front xs ys i (omega arith)

get-last : {T : Type 0} (xs : List T) (y : T) (i : ℕ) → i ≡ length xs → slice_get (xs ++ y ∷ []) i ≡ Some y
get-last [] y zero e = refl
get-last [] y (suc i) e = absurd (omega arith)
get-last (x ∷ xs) y zero e = absurd (omega arith)
get-last (x ∷ xs) y (suc i) e = get-last xs y i (omega arith)

pub item_at-numbered : {T : Type 0} (f : ℕ → T) (n number : ℕ) → 1 ≤ number → number ≤ n →
    item_at number (numbered f n) ≡ Some (f number)
item_at-numbered f n zero low high = absurd (omega arith)
item_at-numbered f zero (suc i) low high = absurd (omega arith)
item_at-numbered f (suc n) (suc i) low high =
    let long = length-numbered f n in
    elim (cases_eq i n) as (λ _. slice_get (numbered f n ++ f (suc n) ∷ []) i ≡ Some (f (suc i))) [
      | inl same ↦ get-last (numbered f n) (f (suc n)) i (omega (arith, same))
          ∙ ap (λ (at : ℕ). Some (f (suc at))) (sym same)
      | inr differ ↦ get-front (numbered f n) (f (suc n) ∷ []) i (omega (arith, differ))
          ∙ item_at-numbered f n (suc i) low (omega (arith, differ))
    ]
