-- What a sink may hold after a delivery that failed.
use Rattle.std.specs.Prelude.{ℕ, ◌≤◌, List, length, take, Option}
use Rattle.std.specs.Io.KnownBytes.{Appends}

-- Known bytes grew by a front of the given ones, maybe an empty one.
abbrev pub AppendsFront : Option (List ℕ) → Option (List ℕ) → List ℕ → Type 0
AppendsFront before now bytes = (n : ℕ) × (n ≤ length bytes) × Appends before now (take n bytes)
