-- Where units go on by themselves, and what they call.
use Rattle.std.specs.Prelude.{ℕ, ◌+◌, ◌==◌, ◌&&◌, List, [], ◌∷◌, if◌then◌else◌}
use Rattle.elf_mips.specs.declared.image.Image.{Image}
use Rattle.mips_decode.specs.declared.instr.BranchOp.{BranchOp}
use Rattle.mips_decode.specs.declared.instr.Instr.{Instr}
use Rattle.mips_decode.specs.declared.instr.Instr.TheVariants.{Branch, Jump, JumpReg, JumpLink}
use Rattle.mips_decode.specs.Transfer.{branch_links, branch_target, jump_target}
use Rattle.net_model.specs.declared.unit.CodeUnit.{CodeUnit}
use Rattle.net_model.specs.Onward.{branch_ways, may_be_passed, may_be_taken, stops}
use Rattle.net_model.specs.Targets.{targets_at}

-- BLTZAL and BGEZAL go on behind their slot where they may be not taken.
abbrev pub passed_way : BranchOp → (rs rt address : ℕ) → List ℕ
passed_way op rs rt address = if may_be_passed op rs rt then (address + 8) ∷ [] else []

-- Where an instruction at an address goes on without waiting for a call. `jr $31` goes to its caller, and
-- JR of another register to the targets that are recorded for it.
abbrev pub own_ways : Image → Instr → ℕ → List ℕ
own_ways image (Branch op rs rt offset) address =
    if branch_links op then passed_way op rs rt address else branch_ways op rs rt offset address
own_ways image (Jump link index) address = if link then [] else jump_target address index ∷ []
own_ways image (JumpReg rs) address = if rs == 31 then [] else targets_at image address
own_ways image (JumpLink rd rs) address = []
own_ways image instr address = (address + 4) ∷ []

-- The ways of a unit. One whose instruction or slot is SYSCALL or BREAK has none.
abbrev pub ways_on : Image → CodeUnit → ℕ → List ℕ
ways_on image unit address = if stops unit then [] else own_ways image unit.instr address

-- What an instruction at an address calls: JAL its target, JALR the targets recorded for it, BLTZAL and
-- BGEZAL their branch target where they may be taken.
abbrev pub callees : Image → Instr → ℕ → List ℕ
callees image (Branch op rs rt offset) address =
    if branch_links op && may_be_taken op rs rt then branch_target address offset ∷ [] else []
callees image (Jump link index) address = if link then jump_target address index ∷ [] else []
callees image (JumpLink rd rs) address = targets_at image address
callees image instr address = []

-- The entries of the functions that a unit calls. One whose instruction or slot is SYSCALL or BREAK calls none.
abbrev pub called : Image → CodeUnit → ℕ → List ℕ
called image unit address = if stops unit then [] else callees image unit.instr address
