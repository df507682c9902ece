-- Which instructions go to recorded targets, and which call them.
use Rattle.std.specs.Prelude.{◌==◌, Bool, true, false, not}
use Rattle.mips_decode.specs.declared.instr.Instr.{Instr}
use Rattle.mips_decode.specs.declared.instr.Instr.TheVariants.{JumpReg, JumpLink}

-- JR of another register than 31 goes to the targets that are recorded for it.
abbrev pub is_indirect : Instr → Bool
is_indirect (JumpReg rs) = not (rs == 31)
is_indirect instr = false

-- JALR calls the targets that are recorded for it.
abbrev pub is_register_call : Instr → Bool
is_register_call (JumpLink rd rs) = true
is_register_call instr = false
