-- How counts of 64 bits rise.
use Rattle.std.specs.Prelude.{◌≡◌, ℕ, ◌+◌, ◌-◌, ◌^◌, min, Result, Ok, Err}

-- The count after n more, which stands still at its last value.
abbrev pub raised : ℕ → ℕ → ℕ
raised count n = min (count + n) (2 ^ 64 - 1)

-- An answer of n bytes raised the count by n, and an error left it.
abbrev pub CountsBytes : {E : Type 0} → Result ℕ E → ℕ → ℕ → Type 0
CountsBytes (Ok n) before now = now ≡ raised before n
CountsBytes (Err e) before now = now ≡ before
