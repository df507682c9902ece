-- The numbers of the items with one key, in a list of keys.
use Rattle.std.specs.Prelude.{◌≡◌, ℕ, ◌+◌, ◌≤◌, ◌==◌, if◌then◌else◌, List, [], ◌∷◌, length, Some, slice_get}

-- The numbers of the items with this key, rising, where the first item has the number `from`.
abbrev pub numbers_of : (key from : ℕ) → List ℕ → List ℕ
numbers_of key from [] = []
numbers_of key from (other ∷ others) =
    if other == key then from ∷ numbers_of key (from + 1) others else numbers_of key (from + 1) others

-- For each key up to a greatest one the numbers of its items; items have numbers from 1.
pub record AreNumbers (most : ℕ) (keys : List ℕ) (lists : List (List ℕ)) : Type 0 where
  pub size : length lists ≡ most + 1
  pub each : (key : ℕ) → key ≤ most → slice_get lists key ≡ Some (numbers_of key 1 keys)
