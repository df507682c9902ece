-- The instruction table: each instruction's word, and the range of its fields
-- (MIPS RISC Architecture, Kane and Heinrich 1992, appendix A, instruction formats and encodings).
use Rattle.std.specs.Prelude.{◌≡◌, ℕ, ◌+◌, ◌*◌, ◌^◌, ◌<◌, List, [], ◌∷◌, if◌then◌else◌}
use Rattle.mips_decode.specs.declared.instr.Op3.{Op3}
use Rattle.mips_decode.specs.declared.instr.Op3.TheVariants.{Sllv, Srlv, Srav, Add, Addu, Sub, Subu, And, Or, Xor, Nor, Slt, Sltu}
use Rattle.mips_decode.specs.declared.instr.ShiftOp.{ShiftOp}
use Rattle.mips_decode.specs.declared.instr.ShiftOp.TheVariants.{Sll, Srl, Sra}
use Rattle.mips_decode.specs.declared.instr.HiLoOp.{HiLoOp}
use Rattle.mips_decode.specs.declared.instr.HiLoOp.TheVariants.{Mfhi, Mthi, Mflo, Mtlo}
use Rattle.mips_decode.specs.declared.instr.MulOp.{MulOp}
use Rattle.mips_decode.specs.declared.instr.MulOp.TheVariants.{Mult, Multu, Div, Divu}
use Rattle.mips_decode.specs.declared.instr.ImmOp.{ImmOp}
use Rattle.mips_decode.specs.declared.instr.ImmOp.TheVariants.{Addi, Addiu, Slti, Sltiu, Andi, Ori, Xori}
use Rattle.mips_decode.specs.declared.instr.LoadOp.{LoadOp}
use Rattle.mips_decode.specs.declared.instr.LoadOp.TheVariants.{Lb, Lh, Lwl, Lw, Lbu, Lhu, Lwr}
use Rattle.mips_decode.specs.declared.instr.StoreOp.{StoreOp}
use Rattle.mips_decode.specs.declared.instr.StoreOp.TheVariants.{Sb, Sh, Swl, Sw, Swr}
use Rattle.mips_decode.specs.declared.instr.BranchOp.{BranchOp}
use Rattle.mips_decode.specs.declared.instr.BranchOp.TheVariants.{Beq, Bne, Blez, Bgtz, Bltz, Bgez, Bltzal, Bgezal}
use Rattle.mips_decode.specs.declared.instr.StopOp.{StopOp}
use Rattle.mips_decode.specs.declared.instr.StopOp.TheVariants.{Syscall, Break}
use Rattle.mips_decode.specs.declared.instr.Instr.{Instr}
use Rattle.mips_decode.specs.declared.instr.Instr.TheVariants.{Three, Shift, HiLo, MulDiv, Imm, Lui, Load, Store, Branch, Jump, JumpReg, JumpLink, Stop}

-- The register format: op in bits 26 to 31, rs in 21 to 25, rt in 16 to 20, rd in 11 to 15,
-- sa in 6 to 10, fn in 0 to 5.
abbrev pub register_word : (op rs rt rd sa fn : ℕ) → ℕ
register_word op rs rt rd sa fn =
    op * 2 ^ 26 + rs * 2 ^ 21 + rt * 2 ^ 16 + rd * 2 ^ 11 + sa * 2 ^ 6 + fn

-- The immediate format: op, rs and rt as above, imm in bits 0 to 15.
abbrev pub immediate_word : (op rs rt imm : ℕ) → ℕ
immediate_word op rs rt imm = op * 2 ^ 26 + rs * 2 ^ 21 + rt * 2 ^ 16 + imm

-- The jump format: op as above, index in bits 0 to 25.
abbrev pub jump_word : (op index : ℕ) → ℕ
jump_word op index = op * 2 ^ 26 + index

-- The format of SYSCALL and BREAK: op 0, code in bits 6 to 25, fn in 0 to 5.
abbrev pub stop_word : (code fn : ℕ) → ℕ
stop_word code fn = code * 2 ^ 6 + fn

-- Operations on two registers: op 0, by fn.
abbrev pub three_number : Op3 → ℕ
three_number Sllv = 4
three_number Srlv = 6
three_number Srav = 7
three_number Add = 32
three_number Addu = 33
three_number Sub = 34
three_number Subu = 35
three_number And = 36
three_number Or = 37
three_number Xor = 38
three_number Nor = 39
three_number Slt = 42
three_number Sltu = 43

abbrev pub three_ops : List Op3
three_ops = Sllv ∷ Srlv ∷ Srav ∷ Add ∷ Addu ∷ Sub ∷ Subu ∷ And ∷ Or ∷ Xor ∷ Nor ∷ Slt ∷ Sltu ∷ []

-- Shifts by a fixed number of bits: op 0, by fn.
abbrev pub shift_number : ShiftOp → ℕ
shift_number Sll = 0
shift_number Srl = 2
shift_number Sra = 3

abbrev pub shift_ops : List ShiftOp
shift_ops = Sll ∷ Srl ∷ Sra ∷ []

-- Moves from and to HI and LO: op 0, by fn.
abbrev pub hi_lo_number : HiLoOp → ℕ
hi_lo_number Mfhi = 16
hi_lo_number Mthi = 17
hi_lo_number Mflo = 18
hi_lo_number Mtlo = 19

abbrev pub hi_lo_ops : List HiLoOp
hi_lo_ops = Mfhi ∷ Mthi ∷ Mflo ∷ Mtlo ∷ []

-- Multiplication and division: op 0, by fn.
abbrev pub mul_number : MulOp → ℕ
mul_number Mult = 24
mul_number Multu = 25
mul_number Div = 26
mul_number Divu = 27

abbrev pub mul_ops : List MulOp
mul_ops = Mult ∷ Multu ∷ Div ∷ Divu ∷ []

-- System call and breakpoint: op 0, by fn.
abbrev pub stop_number : StopOp → ℕ
stop_number Syscall = 12
stop_number Break = 13

abbrev pub stop_ops : List StopOp
stop_ops = Syscall ∷ Break ∷ []

-- Operations on a register and an immediate: by op.
abbrev pub imm_number : ImmOp → ℕ
imm_number Addi = 8
imm_number Addiu = 9
imm_number Slti = 10
imm_number Sltiu = 11
imm_number Andi = 12
imm_number Ori = 13
imm_number Xori = 14

abbrev pub imm_ops : List ImmOp
imm_ops = Addi ∷ Addiu ∷ Slti ∷ Sltiu ∷ Andi ∷ Ori ∷ Xori ∷ []

-- Loads: by op.
abbrev pub load_number : LoadOp → ℕ
load_number Lb = 32
load_number Lh = 33
load_number Lwl = 34
load_number Lw = 35
load_number Lbu = 36
load_number Lhu = 37
load_number Lwr = 38

abbrev pub load_ops : List LoadOp
load_ops = Lb ∷ Lh ∷ Lwl ∷ Lw ∷ Lbu ∷ Lhu ∷ Lwr ∷ []

-- Stores: by op.
abbrev pub store_number : StoreOp → ℕ
store_number Sb = 40
store_number Sh = 41
store_number Swl = 42
store_number Sw = 43
store_number Swr = 46

abbrev pub store_ops : List StoreOp
store_ops = Sb ∷ Sh ∷ Swl ∷ Sw ∷ Swr ∷ []

-- The word of an instruction, one row an operation. A field that an operation doesn't have is 0.
-- MFHI and MFLO have their register in rd, MTHI and MTLO in rs. Branches that compare with zero
-- have op 1 and their number in rt, or an op of their own.
abbrev pub word_of : Instr → ℕ
word_of (Three op rd rs rt) = register_word 0 rs rt rd 0 (three_number op)
word_of (Shift op rd rt by) = register_word 0 0 rt rd by (shift_number op)
word_of (HiLo Mfhi reg) = register_word 0 0 0 reg 0 16
word_of (HiLo Mthi reg) = register_word 0 reg 0 0 0 17
word_of (HiLo Mflo reg) = register_word 0 0 0 reg 0 18
word_of (HiLo Mtlo reg) = register_word 0 reg 0 0 0 19
word_of (MulDiv op rs rt) = register_word 0 rs rt 0 0 (mul_number op)
word_of (Imm op rt rs imm) = immediate_word (imm_number op) rs rt imm
word_of (Lui rt imm) = immediate_word 15 0 rt imm
word_of (Load op rt base offset) = immediate_word (load_number op) base rt offset
word_of (Store op rt base offset) = immediate_word (store_number op) base rt offset
word_of (Branch Bltz rs rt offset) = immediate_word 1 rs 0 offset
word_of (Branch Bgez rs rt offset) = immediate_word 1 rs 1 offset
word_of (Branch Bltzal rs rt offset) = immediate_word 1 rs 16 offset
word_of (Branch Bgezal rs rt offset) = immediate_word 1 rs 17 offset
word_of (Branch Beq rs rt offset) = immediate_word 4 rs rt offset
word_of (Branch Bne rs rt offset) = immediate_word 5 rs rt offset
word_of (Branch Blez rs rt offset) = immediate_word 6 rs 0 offset
word_of (Branch Bgtz rs rt offset) = immediate_word 7 rs 0 offset
word_of (Jump link index) = jump_word (if link then 3 else 2) index
word_of (JumpReg rs) = register_word 0 rs 0 0 0 8
word_of (JumpLink rd rs) = register_word 0 rs 0 rd 0 9
word_of (Stop op code) = stop_word code (stop_number op)

-- Only BEQ and BNE compare with a second register; in the other branches it is register 0.
abbrev pub HasSecond : BranchOp → ℕ → Type 0
HasSecond Beq rt = Unit {0}
HasSecond Bne rt = Unit {0}
HasSecond Blez rt = rt ≡ 0
HasSecond Bgtz rt = rt ≡ 0
HasSecond Bltz rt = rt ≡ 0
HasSecond Bgez rt = rt ≡ 0
HasSecond Bltzal rt = rt ≡ 0
HasSecond Bgezal rt = rt ≡ 0

-- Every field is in its range: registers below 32, shifts below 32, immediates and offsets of
-- 16 bits, an index of 26 bits, a code of 20 bits.
abbrev pub IsValid : Instr → Type 0
IsValid (Three op rd rs rt) = (rd < 32) × (rs < 32) × (rt < 32)
IsValid (Shift op rd rt by) = (rd < 32) × (rt < 32) × (by < 32)
IsValid (HiLo op reg) = reg < 32
IsValid (MulDiv op rs rt) = (rs < 32) × (rt < 32)
IsValid (Imm op rt rs imm) = (rt < 32) × (rs < 32) × (imm < 2 ^ 16)
IsValid (Lui rt imm) = (rt < 32) × (imm < 2 ^ 16)
IsValid (Load op rt base offset) = (rt < 32) × (base < 32) × (offset < 2 ^ 16)
IsValid (Store op rt base offset) = (rt < 32) × (base < 32) × (offset < 2 ^ 16)
IsValid (Branch op rs rt offset) = (rs < 32) × (rt < 32) × (offset < 2 ^ 16) × HasSecond op rt
IsValid (Jump link index) = index < 2 ^ 26
IsValid (JumpReg rs) = rs < 32
IsValid (JumpLink rd rs) = (rd < 32) × (rs < 32)
IsValid (Stop op code) = code < 2 ^ 20

-- A row of the table: an instruction with the word that it stands at.
abbrev pub IsRow : ℕ → Instr → Type 0
IsRow word instr = IsValid instr × (word_of instr ≡ word)
