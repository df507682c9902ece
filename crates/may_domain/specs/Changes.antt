-- How the bounds of all named blocks change.
use Rattle.std.specs.Prelude.{ℕ, min, List, [], ◌∷◌, Option, Some, None}
use Rattle.domain_laws.specs.Maps.{value_at}

-- Each named block stays, with another bound.
abbrev pub all_changed : (changed : ℕ × ℕ → ℕ) → List (ℕ × ℕ) → List (ℕ × ℕ)
all_changed changed [] = []
all_changed changed (entry ∷ entries) = (entry.0, changed entry) ∷ all_changed changed entries

-- The lesser of a bound and that of its block in another state, if it has one there.
abbrev pub least_of : (age : ℕ) → Option ℕ → ℕ
least_of age None = age
least_of age (Some other) = min age other

abbrev pub joined_entry : (others : List (ℕ × ℕ)) → ℕ × ℕ → ℕ
joined_entry others entry = least_of entry.1 (value_at entry.0 others)
