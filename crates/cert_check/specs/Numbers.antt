-- Decimal numbers in a text.
use Rattle.std.specs.Prelude.{◌≡◌, ℕ, ◌<◌, ◌≤◌, List, ◌∷◌, ◌++◌}
use Rattle.std.specs.Fmt.{decimal}

-- The digits are `0` to `9`.
abbrev pub IsDigit : ℕ → Type 0
IsDigit byte = (48 ≤ byte) × (byte ≤ 57)

-- A byte that is no digit ends a number.
abbrev pub IsStop : ℕ → Type 0
IsStop byte = IsDigit byte → ⊥

-- A number of digits up to a place may go on: it isn't a zero alone.
abbrev pub IsNext : (number place : ℕ) → Type 0
IsNext number place = 0 < place → 0 < number

-- A number stands at the front of bytes, and a byte behind it that ends it.
pub record Stands (bytes : List ℕ) (n stop : ℕ) (rest : List ℕ) : Type 0 where
  pub ends : IsStop stop
  pub is : bytes ≡ decimal n ++ stop ∷ rest
