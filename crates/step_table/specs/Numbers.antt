-- Numbers of positions.
use Rattle.std.specs.Prelude.{ℕ, List, slice_index_or}

-- The number of a position, and 0 of one past the end.
abbrev pub number_of : List ℕ → ℕ → ℕ
number_of numbers position = slice_index_or numbers position 0
