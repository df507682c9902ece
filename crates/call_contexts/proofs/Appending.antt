-- Lists to which the images of a list's items are added, one after the other.
use Rattle.std.proofs.Common.{◌≡◌, ◌++◌, ◌+◌, ◌<◌, ℕ, List, [], ◌∷◌, length, take, get_or, append_assoc, sym, ap, ◌∙◌}
use Rattle.std.specs.List.{AllZip}
use Rattle.std.proofs.lemmas.List.Elements.{all_zip_more}
use Rattle.std.proofs.lemmas.Option.{get_or_from_slice_get, slice_get-get_or}

-- What is read with one default is read with each.
pub read-any : (xs : List ℕ) (i : ℕ) → i < length xs → get_or xs i 0 ≡ get_or xs i (get_or xs i 0)
read-any xs i inside = sym (get_or_from_slice_get xs i (get_or xs i 0) (get_or xs i 0) (slice_get-get_or xs i 0 inside))

-- Numbers were added to a list that stand so to these items.
abbrev pub AreAdded : (ℕ → ℕ → Type 0) → (items old new : List ℕ) → Type 0
AreAdded R items old new = (numbers : List ℕ) × (new ≡ old ++ numbers) × AllZip R items numbers

pub added-more : (R : ℕ → ℕ → Type 0) (xs old before after : List ℕ) (i y : ℕ) → AreAdded R (take i xs) old before →
    after ≡ before ++ y ∷ [] → i < length xs → R (get_or xs i 0) y → AreAdded R (take (i + 1) xs) old after
added-more R xs old before after i y (numbers, is, each) more inside here = (
  numbers ++ y ∷ [],
  more ∙ ap (λ (ns : List ℕ). ns ++ y ∷ []) is ∙ append_assoc old numbers (y ∷ []),
  all_zip_more R xs numbers i (get_or xs i 0) y inside (read-any xs i inside) each here,
)
