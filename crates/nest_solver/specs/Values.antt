-- The values of a program's columns, and the multipliers of its rows, as the code reads them.
use Rattle.std.specs.Prelude.{◌≡◌, ℕ, ◌+◌, ◌-◌, ◌==◌, nat_le, ℤ, pos, ◌-ℤ◌, length, if◌then◌else◌}
use Rattle.std.specs.Prelude.{unsigned_abs}
use Rattle.ipet_program.specs.Leaves.{value_at}
use Rattle.ipet_program.specs.declared.program.Program.{Program}
use Rattle.nest_solver.specs.Shape.{IsUpTo}

-- The table tells the values of the columns without their signs. (In a net's program none is negative.)
pub record AreValues (program : Program) (values : ℕ → ℕ) : Type 0 where
  pub told : (i : ℕ) → IsUpTo (length program.value) i → values i ≡ unsigned_abs (value_at program i)

-- The multiplier of a row, by the number of places: of row 1 the total, of the row of a place how much less it is worth
-- than place 0, of the row of a loop its turn.
abbrev pub times_of : (places total : ℕ) → (worth turns : ℕ → ℕ) → ℕ → ℤ
times_of places total worth turns row =
    if row == 1 then pos total
    else (if nat_le row (places + 1) then pos (worth 0) -ℤ pos (worth (row - 1))
    else pos (turns (row - (places + 1))))
