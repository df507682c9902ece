-- Instructions as text: the operation's name, then its operands in the assembler's order.
use Rattle.std.specs.Prelude.{ℕ, ◌++◌, Bool, true, false, List, codes, Option, Some, None, if◌then◌else◌}
use Rattle.std.specs.Fmt.{decimal, signed_decimal, digits}
use Rattle.std.specs.Int.{w16, cast_signed}
use Rattle.mips_decode.specs.declared.instr.Op3.{Op3}
use Rattle.mips_decode.specs.declared.instr.Op3.TheVariants.{Sllv, Srlv, Srav, Add, Addu, Sub, Subu, And, Or, Xor, Nor, Slt, Sltu}
use Rattle.mips_decode.specs.declared.instr.ShiftOp.{ShiftOp}
use Rattle.mips_decode.specs.declared.instr.ShiftOp.TheVariants.{Sll, Srl, Sra}
use Rattle.mips_decode.specs.declared.instr.HiLoOp.{HiLoOp}
use Rattle.mips_decode.specs.declared.instr.HiLoOp.TheVariants.{Mfhi, Mthi, Mflo, Mtlo}
use Rattle.mips_decode.specs.declared.instr.MulOp.{MulOp}
use Rattle.mips_decode.specs.declared.instr.MulOp.TheVariants.{Mult, Multu, Div, Divu}
use Rattle.mips_decode.specs.declared.instr.ImmOp.{ImmOp}
use Rattle.mips_decode.specs.declared.instr.ImmOp.TheVariants.{Addi, Addiu, Slti, Sltiu, Andi, Ori, Xori}
use Rattle.mips_decode.specs.declared.instr.LoadOp.{LoadOp}
use Rattle.mips_decode.specs.declared.instr.LoadOp.TheVariants.{Lb, Lh, Lwl, Lw, Lbu, Lhu, Lwr}
use Rattle.mips_decode.specs.declared.instr.StoreOp.{StoreOp}
use Rattle.mips_decode.specs.declared.instr.StoreOp.TheVariants.{Sb, Sh, Swl, Sw, Swr}
use Rattle.mips_decode.specs.declared.instr.BranchOp.{BranchOp}
use Rattle.mips_decode.specs.declared.instr.BranchOp.TheVariants.{Beq, Bne, Blez, Bgtz, Bltz, Bgez, Bltzal, Bgezal}
use Rattle.mips_decode.specs.declared.instr.StopOp.{StopOp}
use Rattle.mips_decode.specs.declared.instr.StopOp.TheVariants.{Syscall, Break}
use Rattle.mips_decode.specs.declared.instr.Instr.{Instr}
use Rattle.mips_decode.specs.declared.instr.Instr.TheVariants.{Three, Shift, HiLo, MulDiv, Imm, Lui, Load, Store, Branch, Jump, JumpReg, JumpLink, Stop}

-- The names of the operations.
abbrev pub three_name : Op3 → List ℕ
three_name Sllv = codes "sllv"
three_name Srlv = codes "srlv"
three_name Srav = codes "srav"
three_name Add = codes "add"
three_name Addu = codes "addu"
three_name Sub = codes "sub"
three_name Subu = codes "subu"
three_name And = codes "and"
three_name Or = codes "or"
three_name Xor = codes "xor"
three_name Nor = codes "nor"
three_name Slt = codes "slt"
three_name Sltu = codes "sltu"

abbrev pub shift_name : ShiftOp → List ℕ
shift_name Sll = codes "sll"
shift_name Srl = codes "srl"
shift_name Sra = codes "sra"

abbrev pub hi_lo_name : HiLoOp → List ℕ
hi_lo_name Mfhi = codes "mfhi"
hi_lo_name Mthi = codes "mthi"
hi_lo_name Mflo = codes "mflo"
hi_lo_name Mtlo = codes "mtlo"

abbrev pub mul_name : MulOp → List ℕ
mul_name Mult = codes "mult"
mul_name Multu = codes "multu"
mul_name Div = codes "div"
mul_name Divu = codes "divu"

abbrev pub imm_name : ImmOp → List ℕ
imm_name Addi = codes "addi"
imm_name Addiu = codes "addiu"
imm_name Slti = codes "slti"
imm_name Sltiu = codes "sltiu"
imm_name Andi = codes "andi"
imm_name Ori = codes "ori"
imm_name Xori = codes "xori"

abbrev pub load_name : LoadOp → List ℕ
load_name Lb = codes "lb"
load_name Lh = codes "lh"
load_name Lwl = codes "lwl"
load_name Lw = codes "lw"
load_name Lbu = codes "lbu"
load_name Lhu = codes "lhu"
load_name Lwr = codes "lwr"

abbrev pub store_name : StoreOp → List ℕ
store_name Sb = codes "sb"
store_name Sh = codes "sh"
store_name Swl = codes "swl"
store_name Sw = codes "sw"
store_name Swr = codes "swr"

abbrev pub branch_name : BranchOp → List ℕ
branch_name Beq = codes "beq"
branch_name Bne = codes "bne"
branch_name Blez = codes "blez"
branch_name Bgtz = codes "bgtz"
branch_name Bltz = codes "bltz"
branch_name Bgez = codes "bgez"
branch_name Bltzal = codes "bltzal"
branch_name Bgezal = codes "bgezal"

abbrev pub stop_name : StopOp → List ℕ
stop_name Syscall = codes "syscall"
stop_name Break = codes "break"

abbrev pub name_of : Instr → List ℕ
name_of (Three op rd rs rt) = three_name op
name_of (Shift op rd rt by) = shift_name op
name_of (HiLo op reg) = hi_lo_name op
name_of (MulDiv op rs rt) = mul_name op
name_of (Imm op rt rs imm) = imm_name op
name_of (Lui rt imm) = codes "lui"
name_of (Load op rt base offset) = load_name op
name_of (Store op rt base offset) = store_name op
name_of (Branch op rs rt offset) = branch_name op
name_of (Jump link index) = if link then codes "jal" else codes "j"
name_of (JumpReg rs) = codes "jr"
name_of (JumpLink rd rs) = codes "jalr"
name_of (Stop op code) = stop_name op

-- A number in hexadecimal, and sixteen bits as a signed number.
abbrev pub hexadecimal : ℕ → List ℕ
hexadecimal number = codes "0x" ++ digits 16 false number

abbrev pub signed_half : ℕ → List ℕ
signed_half half = signed_decimal (cast_signed w16 half)

-- One, two and three registers.
abbrev pub one : ℕ → List ℕ
one a = codes "$" ++ decimal a

abbrev pub two : (a b : ℕ) → List ℕ
two a b = one a ++ codes "," ++ one b

abbrev pub all : (a b c : ℕ) → List ℕ
all a b c = two a b ++ codes "," ++ one c

-- Variable shifts name the register that is shifted before the one that says how far.
abbrev pub three_operands : Op3 → (rd rs rt : ℕ) → List ℕ
three_operands Sllv rd rs rt = all rd rt rs
three_operands Srlv rd rs rt = all rd rt rs
three_operands Srav rd rs rt = all rd rt rs
three_operands op rd rs rt = all rd rs rt

-- The logical operations have bits as their immediate, the others signed numbers.
abbrev pub imm_text : ImmOp → ℕ → List ℕ
imm_text Andi imm = hexadecimal imm
imm_text Ori imm = hexadecimal imm
imm_text Xori imm = hexadecimal imm
imm_text op imm = signed_half imm

-- Only BEQ and BNE name a second register.
abbrev pub branch_registers : BranchOp → (rs rt : ℕ) → List ℕ
branch_registers Beq rs rt = two rs rt
branch_registers Bne rs rt = two rs rt
branch_registers op rs rt = one rs

-- An address: the offset, and the base in brackets.
abbrev pub address_text : (base offset : ℕ) → List ℕ
address_text base offset = signed_half offset ++ (codes "(" ++ one base ++ codes ")")

abbrev pub access_operands : (rt base offset : ℕ) → List ℕ
access_operands rt base offset = one rt ++ codes "," ++ address_text base offset

-- The operands. A branch's offset counts words from its delay slot; a jump's index stands as it is.
abbrev pub operands_of : Instr → List ℕ
operands_of (Three op rd rs rt) = three_operands op rd rs rt
operands_of (Shift op rd rt by) = two rd rt ++ codes "," ++ decimal by
operands_of (HiLo op reg) = one reg
operands_of (MulDiv op rs rt) = two rs rt
operands_of (Imm op rt rs imm) = two rt rs ++ codes "," ++ imm_text op imm
operands_of (Lui rt imm) = one rt ++ codes "," ++ hexadecimal imm
operands_of (Load op rt base offset) = access_operands rt base offset
operands_of (Store op rt base offset) = access_operands rt base offset
operands_of (Branch op rs rt offset) =
    branch_registers op rs rt ++ codes "," ++ signed_half offset
operands_of (Jump link index) = hexadecimal index
operands_of (JumpReg rs) = one rs
operands_of (JumpLink rd rs) = two rd rs
operands_of (Stop op code) = hexadecimal code

-- The text of a word's instruction, if the table has one.
abbrev pub text_of : Option Instr → List ℕ
text_of None = codes "none"
text_of (Some instr) = name_of instr ++ codes " " ++ operands_of instr
