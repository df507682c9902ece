-- The items of a key stand between two places of the sorted ones.
use Rattle.std.proofs.Common.{◌≡◌, ℕ, ◌+◌, ◌-◌, ◌<◌, ◌≤◌, Bool, true, false, List, length, take, drop, get_or, All, sym, subst, ◌∙◌, arith, inl, inr, ◌⊎◌, nat_le, nat_lt}
use Rattle.std.specs.Prelude.{Contains}
use Rattle.std.specs.List.Sorted.{IsPartitionPoint}
use Rattle.std.proofs.lemmas.Bool.{cases_lt, leb-true, leb-false, ltb-true, ltb-false}
use Rattle.std.proofs.lemmas.List.{get_or-take, get_or-drop, get_or_default, length-take-le, length-drop}

-- The items of a key, among others.
pub record AreAt {X : Type 0} (key : X → ℕ) (items : List X) (at : ℕ) (found : List X) : Type 0 where
  pub within : All (Contains items) found
  pub sound : All (λ (item : X). key item ≡ at) found
  pub whole : All (λ (item : X). key item ≡ at → Contains found item) items

abbrev pub IsSplit : {X : Type 0} (test : X → Bool) (items : List X) (place : ℕ) → Type 0
IsSplit {X} test items place =
    IsPartitionPoint (λ (item : X). test item ≡ true) (λ (item : X). test item ≡ false) items place

pub from_to : {X : Type 0} (key : X → ℕ) (items : List X) (address from to : ℕ) (d : X) → from ≤ length items →
    IsSplit (λ item. nat_lt (key item) address) items from →
    IsSplit (λ item. nat_le (key item) address) items to → from ≤ to
from_to key items address from to d fits less most = by_case (cases_lt to from)
  where
    by_case : (to < from) ⊎ (from ≤ to) → from ≤ to
    by_case (inr l) = l
    by_case (inl l) =
        let below : key (get_or items to d) < address = ltb-true (key (get_or items to d)) address (less.0 to d (omega arith) l) in
        let above : address < key (get_or items to d) = leb-false (key (get_or items to d)) address (most.1 to d (omega arith) (omega arith)) in
        absurd (omega arith)

-- The items from one place up to another.
abbrev pub part : {X : Type 0} → List X → ℕ → ℕ → List X
part items from to = take (to - from) (drop from items)

part_length : {X : Type 0} (key : X → ℕ) (items : List X) (from to : ℕ) → to ≤ length items → length (part items from to) ≡ to - from
part_length key items from to fits =
    length-take-le (to - from) (drop from items) (omega (arith, length-drop from items))

part_at : {X : Type 0} (key : X → ℕ) (items : List X) (from to k : ℕ) (d : X) → k < to - from →
    get_or (part items from to) k d ≡ get_or items (from + k) d
part_at key items from to k d less = get_or-take (to - from) (drop from items) k d less ∙ get_or-drop from items k d

-- What stands between the places is an item of the key.
pub part_within : {X : Type 0} (key : X → ℕ) (items : List X) (from to : ℕ) → to ≤ length items → All (Contains items) (part items from to)
part_within key items from to fits k d less =
    let short : k < to - from = omega (arith, part_length key items from to fits) in
    subst (Contains items) (sym (part_at key items from to k d short)) (from + k, omega arith, get_or_default items (from + k) (get_or items (from + k) d) d (omega arith))

pub part_sound : {X : Type 0} (key : X → ℕ) (items : List X) (address from to : ℕ) → to ≤ length items → from ≤ length items →
    IsSplit (λ item. nat_lt (key item) address) items from →
    IsSplit (λ item. nat_le (key item) address) items to →
    All (λ (item : X). key item ≡ address) (part items from to)
part_sound {X} key items address from to fits inside less most k d h =
    let short : k < to - from = omega (arith, part_length key items from to fits) in
    let low = leb-true (key (get_or items (from + k) d)) address (most.0 (from + k) d (omega arith) (omega arith)) in
    let high = ltb-false (key (get_or items (from + k) d)) address (less.1 (from + k) d (omega arith) (omega arith)) in
    subst (λ (item : X). key item ≡ address) (sym (part_at key items from to k d short)) (omega (arith, low, high))

-- Each item of the key stands between the places.
pub part_whole : {X : Type 0} (key : X → ℕ) (items : List X) (address from to : ℕ) → to ≤ length items → from ≤ length items →
    IsSplit (λ item. nat_lt (key item) address) items from →
    IsSplit (λ item. nat_le (key item) address) items to →
    All (λ (item : X). key item ≡ address → Contains (part items from to) item) items
part_whole {X} key items address from to fits inside less most k d h same = by_case (cases_lt k from) (cases_lt k to)
  where
    item : X
    item = get_or items k d

    by_case : (k < from) ⊎ (from ≤ k) → (k < to) ⊎ (to ≤ k) → Contains (part items from to) item
    by_case (inl l) other =
        let below = ltb-true (key item) address (less.0 k d (omega arith) l) in absurd (omega (arith, below, same))
    by_case (inr l) (inr m) =
        let above = leb-false (key item) address (most.1 k d m h) in absurd (omega (arith, above, same))
    by_case (inr l) (inl m) = (
      k - from,
      omega (arith, part_length key items from to fits),
      part_at key items from to (k - from) item (omega arith)
          ∙ there (from + (k - from)) (omega arith),
    )
      where
        there : (j : ℕ) → j ≡ k → get_or items j item ≡ item
        there j e = subst (λ (i : ℕ). get_or items i item ≡ item) (sym e) (get_or_default items k item d h)

pub part_at_address : {X : Type 0} (key : X → ℕ) (items : List X) (address from to : ℕ) (found : List X) → to ≤ length items → from ≤ length items →
    IsSplit (λ item. nat_lt (key item) address) items from →
    IsSplit (λ item. nat_le (key item) address) items to → found ≡ part items from to → AreAt key items address found
part_at_address key items address from to found fits inside less most e =
    subst (AreAt key items address) (sym e) (record {
      within = part_within key items from to fits;
      sound = part_sound key items address from to fits inside less most;
      whole = part_whole key items address from to fits inside less most;
    })
