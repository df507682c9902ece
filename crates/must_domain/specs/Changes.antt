-- How the bounds of all blocks change.
use Rattle.std.specs.Prelude.{ℕ, ◌==◌, if◌then◌else◌, nat_lt, List, [], ◌∷◌, Option, None, Some}
use Rattle.age_model.specs.Ages.{grown_below}
use Rattle.domain_laws.specs.Maps.{entry_of}

-- The entries with another bound, without those that have none then.
abbrev pub all_changed : (changed : ℕ × ℕ → Option ℕ) → List (ℕ × ℕ) → List (ℕ × ℕ)
all_changed changed [] = []
all_changed changed (entry ∷ entries) = entry_of entry.0 (changed entry) (all_changed changed entries)

-- An age as a bound: one that comes to the ways is none.
abbrev pub bound_of : (ways age : ℕ) → Option ℕ
bound_of ways age = if nat_lt age ways then Some age else None

-- A bound below a limit grows by one.
abbrev pub grown : (ways limit : ℕ) → ℕ × ℕ → Option ℕ
grown ways limit entry = bound_of ways (grown_below entry.1 limit)

-- The touched block gets the age 0, and the other bounds grow.
abbrev pub touched_entry : (ways block limit : ℕ) → ℕ × ℕ → Option ℕ
touched_entry ways block limit entry = if entry.0 == block then Some 0 else grown ways limit entry
