-- Which items stand in a list, each of them once.
use Rattle.std.specs.Prelude.{◌≡◌, ℕ, ◌==◌, ◌||◌, Bool, false, List, [], ◌∷◌, if◌then◌else◌}

-- Whether an item stands in a list.
abbrev pub is_in : List ℕ → (item : ℕ) → Bool
is_in [] item = false
is_in (x ∷ xs) item = (x == item) || is_in xs item

-- No item stands in the list twice.
abbrev pub AreApart : List ℕ → Type 0
AreApart [] = Unit {0}
AreApart (x ∷ xs) = (is_in xs x ≡ false) × AreApart xs

-- The list without an item: the first one of this number goes.
abbrev pub without : List ℕ → (item : ℕ) → List ℕ
without [] item = []
without (x ∷ xs) item = if x == item then xs else x ∷ without xs item
