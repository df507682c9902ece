-- Items of a list by the numbers at which they stand.
use Rattle.std.proofs.Common.{◌≡◌, ℕ, zero, suc, ◌+◌, List, [], ◌∷◌, ◌++◌, length, Option, Some, refl, sym, ap, ◌∙◌, arith}
use Rattle.flow_net.specs.Numbers.{item_at}

-- These items stand at the numbers from the given one on.
abbrev pub AreAt : {T : Type 0} → (at : ℕ → Option T) → (number : ℕ) → List T → Type 0
AreAt at number [] = Unit {0}
AreAt at number (x ∷ more) = (at number ≡ Some x) × AreAt at (suc number) more

-- The same under other numbers.
pub are-moved : {T : Type 0} (at to : ℕ → Option T) (number other : ℕ) → ((i : ℕ) → at (number + i) ≡ to (other + i)) →
    (items : List T) → AreAt at number items → AreAt to other items
are-moved at to number other same [] all = tt
are-moved {T} at to number other same (x ∷ more) all =
    let from : at number ≡ at (number + 0) = ap at (omega arith) in
    let here : to (other + 0) ≡ to other = ap to (omega arith) in (
      sym here ∙ sym (same 0) ∙ sym from ∙ all.0,
      are-moved at to (suc number) (suc other)
          (λ i. let left : at (suc number + i) ≡ at (number + suc i) = ap at (omega arith) in
          let right : to (other + suc i) ≡ to (suc other + i) = ap to (omega arith) in
          left ∙ same (suc i) ∙ right) more all.1,
    )

are-later : {T : Type 0} (first : T) (all : List T) (k : ℕ) (items : List T) → AreAt (λ n. item_at n all) (suc k) items →
    AreAt (λ n. item_at n (first ∷ all)) (suc (suc k)) items
are-later first all k [] at = tt
are-later first all k (x ∷ more) at = (at.0, are-later first all (suc k) more at.1)

-- The items of a list have the numbers from 1 on.
pub are-at : {T : Type 0} (items : List T) → AreAt (λ n. item_at n items) 1 items
are-at [] = tt
are-at (x ∷ more) = (refl, are-later x more 0 more (are-at more))

pub are-front : {T : Type 0} (at : ℕ → Option T) (number : ℕ) (front back : List T) → AreAt at number (front ++ back) →
    AreAt at number front
are-front at number [] back all = tt
are-front at number (x ∷ front) back all = (all.0, are-front at (suc number) front back all.1)

pub are-back : {T : Type 0} (at : ℕ → Option T) (number : ℕ) (front back : List T) → AreAt at number (front ++ back) →
    AreAt at (number + length front) back
are-back at number [] back all = are-moved at at number (number + 0) (λ i. ap at (omega arith)) back all
are-back at number (x ∷ front) back all =
    are-moved at at (suc number + length front) (number + length (x ∷ front)) (λ i. ap at (omega arith)) back
    (are-back at (suc number) front back all.1)
