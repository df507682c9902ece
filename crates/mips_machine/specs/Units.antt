-- The values that one instruction works on.
use Rattle.std.specs.Prelude.{ℕ, List}
use Rattle.mips_decode.specs.declared.step.Regs.{Regs}
use Rattle.mips_decode.specs.State.{Region, State}

abbrev pub state_of : Regs → ℕ → List Region → State
state_of regs pc regions = record { regs = regs; pc = pc; regions = regions }
