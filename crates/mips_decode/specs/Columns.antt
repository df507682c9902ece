-- The columns of the instruction table: the places that each instruction reads and writes, and
-- its cost class.
use Rattle.std.specs.Prelude.{ℕ, ◌^◌, ◌==◌, bit_or, List, [], ◌∷◌, if◌then◌else◌}
use Rattle.mips_decode.specs.declared.columns.CostClass.{CostClass}
use Rattle.mips_decode.specs.declared.columns.CostClass.TheVariants as cost
use Rattle.mips_decode.specs.declared.instr.Op3.{Op3}
use Rattle.mips_decode.specs.declared.instr.Op3.TheVariants.{Sllv, Srlv, Srav}
use Rattle.mips_decode.specs.declared.instr.HiLoOp.TheVariants.{Mfhi, Mthi, Mflo, Mtlo}
use Rattle.mips_decode.specs.declared.instr.MulOp.{MulOp}
use Rattle.mips_decode.specs.declared.instr.MulOp.TheVariants.{Mult, Multu, Div, Divu}
use Rattle.mips_decode.specs.declared.instr.LoadOp.{LoadOp}
use Rattle.mips_decode.specs.declared.instr.LoadOp.TheVariants.{Lwl, Lwr}
use Rattle.mips_decode.specs.declared.instr.BranchOp.{BranchOp}
use Rattle.mips_decode.specs.declared.instr.BranchOp.TheVariants.{Beq, Bne, Bltzal, Bgezal}
use Rattle.mips_decode.specs.declared.instr.Instr.{Instr}
use Rattle.mips_decode.specs.declared.instr.Instr.TheVariants.{Three, Shift, HiLo, MulDiv, Imm, Lui, Load, Store, Branch, Jump, JumpReg, JumpLink, Stop}

-- Places are the registers by their numbers, then HI and LO.
abbrev pub hi : ℕ
hi = 32

abbrev pub lo : ℕ
lo = 33

-- A set of places, by one bit for each.
abbrev pub bits_of : List ℕ → ℕ
bits_of [] = 0
bits_of (place ∷ []) = 2 ^ place
bits_of (place ∷ other ∷ more) = bit_or (2 ^ place) (bits_of (other ∷ more))

-- LWL and LWR keep a part of their register.
abbrev pub load_reads : LoadOp → (rt base : ℕ) → List ℕ
load_reads Lwl rt base = base ∷ rt ∷ []
load_reads Lwr rt base = base ∷ rt ∷ []
load_reads op rt base = base ∷ []

-- Only BEQ and BNE compare with a second register.
abbrev pub branch_reads : BranchOp → (rs rt : ℕ) → List ℕ
branch_reads Beq rs rt = rs ∷ rt ∷ []
branch_reads Bne rs rt = rs ∷ rt ∷ []
branch_reads op rs rt = rs ∷ []

-- The places that an instruction reads: its operands.
abbrev pub places_read : Instr → List ℕ
places_read (Three op rd rs rt) = rs ∷ rt ∷ []
places_read (Shift op rd rt by) = rt ∷ []
places_read (HiLo Mfhi reg) = hi ∷ []
places_read (HiLo Mthi reg) = reg ∷ []
places_read (HiLo Mflo reg) = lo ∷ []
places_read (HiLo Mtlo reg) = reg ∷ []
places_read (MulDiv op rs rt) = rs ∷ rt ∷ []
places_read (Imm op rt rs imm) = rs ∷ []
places_read (Lui rt imm) = []
places_read (Load op rt base offset) = load_reads op rt base
places_read (Store op rt base offset) = base ∷ rt ∷ []
places_read (Branch op rs rt offset) = branch_reads op rs rt
places_read (Jump link index) = []
places_read (JumpReg rs) = rs ∷ []
places_read (JumpLink rd rs) = rs ∷ []
places_read (Stop op code) = []

-- A register that is written; register 0 never is.
abbrev pub register : ℕ → List ℕ
register number = if number == 0 then [] else number ∷ []

-- BLTZAL and BGEZAL write their link into register 31.
abbrev pub branch_writes : BranchOp → List ℕ
branch_writes Bltzal = 31 ∷ []
branch_writes Bgezal = 31 ∷ []
branch_writes op = []

-- The places that an instruction writes.
abbrev pub places_written : Instr → List ℕ
places_written (Three op rd rs rt) = register rd
places_written (Shift op rd rt by) = register rd
places_written (HiLo Mfhi reg) = register reg
places_written (HiLo Mthi reg) = hi ∷ []
places_written (HiLo Mflo reg) = register reg
places_written (HiLo Mtlo reg) = lo ∷ []
places_written (MulDiv op rs rt) = hi ∷ lo ∷ []
places_written (Imm op rt rs imm) = register rt
places_written (Lui rt imm) = register rt
places_written (Load op rt base offset) = register rt
places_written (Store op rt base offset) = []
places_written (Branch op rs rt offset) = branch_writes op
places_written (Jump link index) = if link then 31 ∷ [] else []
places_written (JumpReg rs) = []
places_written (JumpLink rd rs) = register rd
places_written (Stop op code) = []

-- Variable shifts cost as shifts do.
abbrev pub three_class : Op3 → CostClass
three_class Sllv = cost.Shift
three_class Srlv = cost.Shift
three_class Srav = cost.Shift
three_class op = cost.Alu

abbrev pub mul_class : MulOp → CostClass
mul_class Mult = cost.Mult
mul_class Multu = cost.Mult
mul_class Div = cost.Div
mul_class Divu = cost.Div

-- The cost class of an instruction.
abbrev pub class_of : Instr → CostClass
class_of (Three op rd rs rt) = three_class op
class_of (Shift op rd rt by) = cost.Shift
class_of (HiLo op reg) = cost.Move
class_of (MulDiv op rs rt) = mul_class op
class_of (Imm op rt rs imm) = cost.Alu
class_of (Lui rt imm) = cost.Alu
class_of (Load op rt base offset) = cost.Load
class_of (Store op rt base offset) = cost.Store
class_of (Branch op rs rt offset) = cost.Branch
class_of (Jump link index) = cost.Jump
class_of (JumpReg rs) = cost.Jump
class_of (JumpLink rd rs) = cost.Jump
class_of (Stop op code) = cost.Stop
