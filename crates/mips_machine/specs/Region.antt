-- Where regions may lie.
use Rattle.std.specs.Prelude.{ℕ, ◌+◌, ◌≤◌, List, length}
use Rattle.mips_decode.specs.State.{return_address}

-- A stretch of bytes ends at or below the place of return, so that no address behind a word wraps.
abbrev pub LiesLow : ℕ → List ℕ → Type 0
LiesLow start bytes = start + length bytes ≤ return_address
