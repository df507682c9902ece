-- What a bisection among items with rising keys finds.
use Rattle.std.proofs.Common.{◌≡◌, ℕ, ◌<◌, ◌≤◌, true, false, List, length, get_or, slice_get, Some, AllPairs, subst, ap, ◌∙◌, arith, inl, inr, ◌⊎◌, nat_lt}
use Rattle.std.specs.List.Sorted.{IsNonDecreasingBy, IsPartitionPoint}
use Rattle.std.proofs.lemmas.Bool.{cases_lt, ltb-false, ltb-true}
use Rattle.std.proofs.lemmas.Option.{get_or_from_slice_get, slice_get_within}

module _ {T : Type 0} (key : T → ℕ) (items : List T) (rising : AllPairs (λ (a b : T). key a < key b) items) where
  pub keys_ordered : IsNonDecreasingBy key items
  keys_ordered i j d some inside = by_case (cases_lt i j)
    where
      by_case : (i < j) ⊎ (j ≤ i) → key (get_or items i d) ≤ key (get_or items j d)
      by_case (inl l) = let less = rising i j d l inside in omega arith
      by_case (inr m) = let same : i ≡ j = omega arith in
          subst (λ (k : ℕ). key (get_or items i d) ≤ key (get_or items k d)) same (omega arith)

  -- The items before the place have lesser keys, those from it on don't.
  abbrev pub IsCutAt : (wanted place : ℕ) → Type 0
  IsCutAt wanted place = IsPartitionPoint (λ (item : T). nat_lt (key item) wanted ≡ true) (λ (item : T). nat_lt (key item) wanted ≡ false) items place

  -- An item of the key stands at the place.
  pub cut_found : (wanted place : ℕ) → IsCutAt wanted place → (k : ℕ) (item : T) → slice_get items k ≡ Some item → key item ≡ wanted →
      slice_get items place ≡ Some item
  cut_found wanted place split k item there same = subst (λ (i : ℕ). slice_get items i ≡ Some item) here there
    where
      within : k < length items
      within = slice_get_within items k item there

      at : key (get_or items k item) ≡ wanted
      at = ap key (get_or_from_slice_get items k item item there) ∙ same

      not_before : (k < place) ⊎ (place ≤ k) → place ≤ k
      not_before (inr l) = l
      not_before (inl l) =
          let below = ltb-true (key (get_or items k item)) wanted (split.0 k item (omega arith) l) in
          absurd (omega (arith, below, at))

      not_behind : (place < k) ⊎ (k ≤ place) → k ≤ place
      not_behind (inr l) = l
      not_behind (inl l) =
          let less = rising place k item l within in
          let least = ltb-false (key (get_or items place item)) wanted (split.1 place item (omega arith) (omega (arith, l, within))) in
          absurd (omega (arith, less, least, at))

      here : k ≡ place
      here = omega (arith, not_before (cases_lt k place), not_behind (cases_lt place k))
