-- Where a key stands in a list of entries, or between which entries it would stand.
use Rattle.std.specs.Prelude.{◌≡◌, ℕ, ◌<◌, ◌≤◌, List, length, Some, slice_get}

-- The entry at a place has this key.
pub record IsKeyAt {D : Type 0} (entries : List (ℕ × D)) (place key : ℕ) : Type 0 where
  pub value : D
  pub there : slice_get entries place ≡ Some (key, value)

-- The entry of the key stands at this place.
abbrev pub IsPlaceOf : {D : Type 0} → List (ℕ × D) → ℕ → ℕ → Type 0
IsPlaceOf entries key place = IsKeyAt entries place key

-- No entry has the key, which lies above those before this place and below those from there on.
pub record IsGapFor {D : Type 0} (entries : List (ℕ × D)) (key place : ℕ) : Type 0 where
  pub inside : place ≤ length entries
  pub below : (other : ℕ) (entry : ℕ × D) → other < place → slice_get entries other ≡ Some entry → entry.0 < key
  pub above : (other : ℕ) (entry : ℕ × D) → place ≤ other → slice_get entries other ≡ Some entry → key < entry.0
