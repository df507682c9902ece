-- What branches and units may do: which branches are taken or passed, and which units stop, return
-- or load.
use Rattle.std.specs.Prelude.{ℕ, ◌+◌, ◌==◌, ◌&&◌, ◌||◌, Bool, true, false, not, List, [], ◌∷◌, ◌++◌, Option, Some, None, if◌then◌else◌}
use Rattle.mips_decode.specs.declared.instr.BranchOp.{BranchOp}
use Rattle.mips_decode.specs.declared.instr.BranchOp.TheVariants.{Beq, Bne, Blez, Bgtz, Bltz, Bgez, Bltzal, Bgezal}
use Rattle.mips_decode.specs.declared.instr.Instr.{Instr}
use Rattle.mips_decode.specs.declared.instr.Instr.TheVariants.{Branch, JumpReg, Load, Stop}
use Rattle.mips_decode.specs.Transfer.{branch_links, branch_target}
use Rattle.net_model.specs.declared.unit.CodeUnit.{CodeUnit}

-- A register equals itself, and register 0 is zero: such a comparison is known beforehand.
-- A branch that may be taken: all but BNE of a register with itself, and BGTZ, BLTZ and BLTZAL of
-- register 0.
abbrev pub may_be_taken : BranchOp → (rs rt : ℕ) → Bool
may_be_taken Bne rs rt = not (rs == rt)
may_be_taken Bgtz rs rt = not (rs == 0)
may_be_taken Bltz rs rt = not (rs == 0)
may_be_taken Bltzal rs rt = not (rs == 0)
may_be_taken op rs rt = true

-- A branch that may be not taken: all but BEQ of a register with itself, and BLEZ, BGEZ and BGEZAL of
-- register 0.
abbrev pub may_be_passed : BranchOp → (rs rt : ℕ) → Bool
may_be_passed Beq rs rt = not (rs == rt)
may_be_passed Blez rs rt = not (rs == 0)
may_be_passed Bgez rs rt = not (rs == 0)
may_be_passed Bgezal rs rt = not (rs == 0)
may_be_passed op rs rt = true

-- SYSCALL and BREAK end a run.
abbrev pub is_stop : Instr → Bool
is_stop (Stop op code) = true
is_stop instr = false

abbrev pub is_stop_slot : Option Instr → Bool
is_stop_slot None = false
is_stop_slot (Some slot) = is_stop slot

-- The unit's instruction or its slot is SYSCALL or BREAK: it goes nowhere, calls nothing and doesn't return.
abbrev pub stops : CodeUnit → Bool
stops unit = is_stop unit.instr || is_stop_slot unit.slot

abbrev pub is_return : Instr → Bool
is_return (JumpReg rs) = rs == 31
is_return instr = false

-- A return unit: `jr $31`.
abbrev pub returns : CodeUnit → Bool
returns unit = not (stops unit) && is_return unit.instr

-- The ways of a branch: to its target where it may be taken, behind its slot where it may be not taken.
abbrev pub branch_ways : BranchOp → (rs rt offset address : ℕ) → List ℕ
branch_ways op rs rt offset address =
    (if may_be_taken op rs rt then branch_target address offset ∷ [] else [])
    ++ (if may_be_passed op rs rt then (address + 8) ∷ [] else [])

-- BLTZAL or BGEZAL that may be not taken.
abbrev pub is_link_passed : Instr → Bool
is_link_passed (Branch op rs rt offset) = branch_links op && may_be_passed op rs rt
is_link_passed instr = false

-- The instruction loads.
abbrev pub is_load : Instr → Bool
is_load (Load op rt base offset) = true
is_load instr = false

abbrev pub slot_load : Option Instr → ℕ → Option ℕ
slot_load None address = None
slot_load (Some slot) address = if is_load slot then Some address else None

-- The address of the unit's instruction or slot that loads. A jump or branch never loads itself.
abbrev pub load_of : CodeUnit → ℕ → Option ℕ
load_of unit address = if is_load unit.instr then Some address else slot_load unit.slot (address + 4)
