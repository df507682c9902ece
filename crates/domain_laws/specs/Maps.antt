-- Maps from numbers to values, as lists of entries by rising key. A key that isn't there knows nothing, so that
-- it is above every value: no entry is as good as the greatest value.
use Rattle.std.specs.Prelude.{◌≡◌, ℕ, ◌+◌, ◌≤◌, Bool, true, false, ◌&&◌, ◌==◌, if◌then◌else◌, nat_lt, List, [], ◌∷◌, Option, None, Some}

-- The keys rise, from some number on. So each key is there at most once.
abbrev pub Rises : {D : Type 0} → ℕ → List (ℕ × D) → Type 0
Rises from [] = Unit {0}
Rises from (entry ∷ entries) = (from ≤ entry.0) × Rises (entry.0 + 1) entries

-- The value of a key.
abbrev pub value_at : {D : Type 0} → ℕ → List (ℕ × D) → Option D
value_at key [] = None
value_at key (entry ∷ entries) = if key == entry.0 then Some entry.1 else value_at key entries

-- Values by rising key, each of which meets the condition of its key.
pub record IsMap {D : Type 0} (ok : ℕ → D → Type 0) (entries : List (ℕ × D)) : Type 0 where
  pub rising : Rises 0 entries
  pub each : (key : ℕ) (x : D) → value_at key entries ≡ Some x → ok key x

-- The order of values, with none above every value.
abbrev pub topped_leq : {D : Type 0} → (D → D → Bool) → Option D → Option D → Bool
topped_leq leq x None = true
topped_leq leq None (Some y) = false
topped_leq leq (Some x) (Some y) = leq x y

-- The join of values, where a join may know nothing.
abbrev pub topped_joined : {D : Type 0} → (D → D → Option D) → Option D → Option D → Option D
topped_joined joined None y = None
topped_joined joined (Some x) None = None
topped_joined joined (Some x) (Some y) = joined x y

-- A join that always is a value.
abbrev pub always : {D : Type 0} → (D → D → D) → D → D → Option D
always joined x y = Some (joined x y)

-- A map is under another one where the value of each key there is above that of the key here.
abbrev pub map_leq : {D : Type 0} → (D → D → Bool) → List (ℕ × D) → List (ℕ × D) → Bool
map_leq leq below [] = true
map_leq leq below (entry ∷ entries) =
    topped_leq leq (value_at entry.0 below) (Some entry.1) && map_leq leq below entries

-- An entry in front, unless there is no value for it.
abbrev pub entry_of : {D : Type 0} → ℕ → Option D → List (ℕ × D) → List (ℕ × D)
entry_of key None entries = entries
entry_of key (Some x) entries = (key, x) ∷ entries

-- The keys that both maps have, with the join of their values.
abbrev pub map_joined : {D : Type 0} → (D → D → Option D) → List (ℕ × D) → List (ℕ × D) → List (ℕ × D)
map_joined joined [] others = []
map_joined joined (entry ∷ entries) others =
    entry_of entry.0 (topped_joined joined (Some entry.1) (value_at entry.0 others)) (map_joined joined entries others)

-- Each entry counts one more than the rank of its value.
abbrev pub map_rank : {D : Type 0} → (D → ℕ) → List (ℕ × D) → ℕ
map_rank rank [] = 0
map_rank rank (entry ∷ entries) = rank entry.1 + 1 + map_rank rank entries

-- The map with this value for a key, and all else as it was.
abbrev pub with_value : {D : Type 0} → ℕ → D → List (ℕ × D) → List (ℕ × D)
with_value key x [] = (key, x) ∷ []
with_value key x (entry ∷ entries) =
    if nat_lt key entry.0 then (key, x) ∷ entry ∷ entries
    else (if key == entry.0 then (key, x) ∷ entries else entry ∷ with_value key x entries)
