-- Each instruction of the table is what the decoder finds at its word, and is a candidate for it.
use Rattle.std.proofs.Common.{subst, ◌≡◌, ℕ, ◌/◌, ◌%◌, ◌^◌, ◌<◌, true, false, refl, sym, arith}
use Rattle.std.specs.Prelude.{Some}
use Rattle.mips_decode.specs.declared.fields.Fields.{Fields}
use Rattle.mips_decode.specs.declared.instr.Op3.{Op3}
use Rattle.mips_decode.specs.declared.instr.Op3.TheVariants.{Sllv, Srlv, Srav, Add, Addu, Sub, Subu, And, Or, Xor, Nor, Slt, Sltu}
use Rattle.mips_decode.specs.declared.instr.ShiftOp.{ShiftOp}
use Rattle.mips_decode.specs.declared.instr.ShiftOp.TheVariants.{Sll, Srl, Sra}
use Rattle.mips_decode.specs.declared.instr.HiLoOp.TheVariants.{Mfhi, Mthi, Mflo, Mtlo}
use Rattle.mips_decode.specs.declared.instr.MulOp.{MulOp}
use Rattle.mips_decode.specs.declared.instr.MulOp.TheVariants.{Mult, Multu, Div, Divu}
use Rattle.mips_decode.specs.declared.instr.ImmOp.{ImmOp}
use Rattle.mips_decode.specs.declared.instr.ImmOp.TheVariants.{Addi, Addiu, Slti, Sltiu, Andi, Ori, Xori}
use Rattle.mips_decode.specs.declared.instr.LoadOp.{LoadOp}
use Rattle.mips_decode.specs.declared.instr.LoadOp.TheVariants.{Lb, Lh, Lwl, Lw, Lbu, Lhu, Lwr}
use Rattle.mips_decode.specs.declared.instr.StoreOp.{StoreOp}
use Rattle.mips_decode.specs.declared.instr.StoreOp.TheVariants.{Sb, Sh, Swl, Sw, Swr}
use Rattle.mips_decode.specs.declared.instr.BranchOp.{BranchOp}
use Rattle.mips_decode.specs.declared.instr.BranchOp.TheVariants.{Beq, Bne, Blez, Bgtz, Bltz, Bgez, Bltzal, Bgezal}
use Rattle.mips_decode.specs.declared.instr.StopOp.{StopOp}
use Rattle.mips_decode.specs.declared.instr.StopOp.TheVariants.{Syscall, Break}
use Rattle.mips_decode.specs.declared.instr.Instr.{Instr}
use Rattle.mips_decode.specs.declared.instr.Instr.TheVariants.{Three, Shift, HiLo, MulDiv, Imm, Lui, Load, Store, Branch, Jump, JumpReg, JumpLink, Stop}
use Rattle.mips_decode.specs.Table.{register_word, immediate_word, jump_word, stop_word, three_number, shift_number, mul_number, stop_number, imm_number, load_number, store_number, IsValid, word_of}
use Rattle.mips_decode.specs.Decoded.{fields_of, candidates_with}
use Rattle.mips_decode.specs.Decoder.{by_fields}
use Rattle.mips_decode.proofs.Found.{StandsAt}

-- A register word's fields are those that it was put together from.
fields-register : (rs rt rd sa fn : ℕ) → rs < 32 → rt < 32 → rd < 32 → sa < 32 → fn < 64 →
    let w = register_word 0 rs rt rd sa fn in
    fields_of w ≡ record (fields_of w) { op = 0; rs = rs; rt = rt; rd = rd; sa = sa; function = fn }
fields-register rs rt rd sa fn b c d e f =
    let w = register_word 0 rs rt rd sa fn in
    let e1 : w / 2 ^ 26 % 2 ^ 6 ≡ 0 = omega arith in
    let e2 : w / 2 ^ 21 % 2 ^ 5 ≡ rs = omega arith in
    let e3 : w / 2 ^ 16 % 2 ^ 5 ≡ rt = omega arith in
    let e4 : w / 2 ^ 11 % 2 ^ 5 ≡ rd = omega arith in
    let e5 : w / 2 ^ 6 % 2 ^ 5 ≡ sa = omega arith in
    let e6 : w % 2 ^ 6 ≡ fn = omega arith in
    λ i. record (fields_of w) { op = e1 i; rs = e2 i; rt = e3 i; rd = e4 i; sa = e5 i; function = e6 i }

-- An immediate word's fields are those that it was put together from.
fields-immediate : (op rs rt imm : ℕ) → op < 64 → rs < 32 → rt < 32 → imm < 2 ^ 16 →
    let w = immediate_word op rs rt imm in
    fields_of w ≡ record (fields_of w) { op = op; rs = rs; rt = rt; imm = imm }
fields-immediate op rs rt imm a b c d =
    let w = immediate_word op rs rt imm in
    let e1 : w / 2 ^ 26 % 2 ^ 6 ≡ op = omega arith in
    let e2 : w / 2 ^ 21 % 2 ^ 5 ≡ rs = omega arith in
    let e3 : w / 2 ^ 16 % 2 ^ 5 ≡ rt = omega arith in
    let e7 : w % 2 ^ 16 ≡ imm = omega arith in
    λ i. record (fields_of w) { op = e1 i; rs = e2 i; rt = e3 i; imm = e7 i }

-- A jump word's fields are those that it was put together from.
fields-jump : (op index : ℕ) → op < 64 → index < 2 ^ 26 →
    let w = jump_word op index in
    fields_of w ≡ record (fields_of w) { op = op; index = index }
fields-jump op index a b =
    let w = jump_word op index in
    let e1 : w / 2 ^ 26 % 2 ^ 6 ≡ op = omega arith in
    let e8 : w % 2 ^ 26 ≡ index = omega arith in
    λ i. record (fields_of w) { op = e1 i; index = e8 i }

-- The fields of a word with a code are those that it was put together from.
fields-stop : (code fn : ℕ) → code < 2 ^ 20 → fn < 64 →
    let w = stop_word code fn in
    fields_of w ≡ record (fields_of w) { op = 0; function = fn; code = code }
fields-stop code fn a b =
    let w = stop_word code fn in
    let e1 : w / 2 ^ 26 % 2 ^ 6 ≡ 0 = omega arith in
    let e6 : w % 2 ^ 6 ≡ fn = omega arith in
    let e9 : w / 2 ^ 6 % 2 ^ 20 ≡ code = omega arith in
    λ i. record (fields_of w) { op = e1 i; function = e6 i; code = e9 i }

-- The numbers of operations have six bits.
three_number-small : (op : Op3) → three_number op < 64
three_number-small Sllv = omega arith
three_number-small Srlv = omega arith
three_number-small Srav = omega arith
three_number-small Add = omega arith
three_number-small Addu = omega arith
three_number-small Sub = omega arith
three_number-small Subu = omega arith
three_number-small And = omega arith
three_number-small Or = omega arith
three_number-small Xor = omega arith
three_number-small Nor = omega arith
three_number-small Slt = omega arith
three_number-small Sltu = omega arith

shift_number-small : (op : ShiftOp) → shift_number op < 64
shift_number-small Sll = omega arith
shift_number-small Srl = omega arith
shift_number-small Sra = omega arith

mul_number-small : (op : MulOp) → mul_number op < 64
mul_number-small Mult = omega arith
mul_number-small Multu = omega arith
mul_number-small Div = omega arith
mul_number-small Divu = omega arith

stop_number-small : (op : StopOp) → stop_number op < 64
stop_number-small Syscall = omega arith
stop_number-small Break = omega arith

imm_number-small : (op : ImmOp) → imm_number op < 64
imm_number-small Addi = omega arith
imm_number-small Addiu = omega arith
imm_number-small Slti = omega arith
imm_number-small Sltiu = omega arith
imm_number-small Andi = omega arith
imm_number-small Ori = omega arith
imm_number-small Xori = omega arith

load_number-small : (op : LoadOp) → load_number op < 64
load_number-small Lb = omega arith
load_number-small Lh = omega arith
load_number-small Lwl = omega arith
load_number-small Lw = omega arith
load_number-small Lbu = omega arith
load_number-small Lhu = omega arith
load_number-small Lwr = omega arith

store_number-small : (op : StoreOp) → store_number op < 64
store_number-small Sb = omega arith
store_number-small Sh = omega arith
store_number-small Swl = omega arith
store_number-small Sw = omega arith
store_number-small Swr = omega arith

-- What a word's fields tell of an instruction: the decoder finds it, and it stands at a place among the candidates.
abbrev pub FoundAs : Fields → Instr → Type 0
FoundAs fields instr = (by_fields fields ≡ Some instr) × (k : ℕ) × StandsAt k (candidates_with fields) instr

-- Each operation at its fields.
three-at : (op : Op3) (f : Fields) (rd rs rt : ℕ) →
    FoundAs (record f { op = 0; rs = rs; rt = rt; rd = rd; sa = 0; function = three_number op }) (Three op rd rs rt)
three-at Sllv f rd rs rt = (refl, 0, refl)
three-at Srlv f rd rs rt = (refl, 1, refl)
three-at Srav f rd rs rt = (refl, 2, refl)
three-at Add f rd rs rt = (refl, 3, refl)
three-at Addu f rd rs rt = (refl, 4, refl)
three-at Sub f rd rs rt = (refl, 5, refl)
three-at Subu f rd rs rt = (refl, 6, refl)
three-at And f rd rs rt = (refl, 7, refl)
three-at Or f rd rs rt = (refl, 8, refl)
three-at Xor f rd rs rt = (refl, 9, refl)
three-at Nor f rd rs rt = (refl, 10, refl)
three-at Slt f rd rs rt = (refl, 11, refl)
three-at Sltu f rd rs rt = (refl, 12, refl)

shift-at : (op : ShiftOp) (f : Fields) (rd rt by : ℕ) →
    FoundAs (record f { op = 0; rs = 0; rt = rt; rd = rd; sa = by; function = shift_number op }) (Shift op rd rt by)
shift-at Sll f rd rt by = (refl, 13, refl)
shift-at Srl f rd rt by = (refl, 14, refl)
shift-at Sra f rd rt by = (refl, 15, refl)

mul-at : (op : MulOp) (f : Fields) (rs rt : ℕ) →
    FoundAs (record f { op = 0; rs = rs; rt = rt; rd = 0; sa = 0; function = mul_number op }) (MulDiv op rs rt)
mul-at Mult f rs rt = (refl, 20, refl)
mul-at Multu f rs rt = (refl, 21, refl)
mul-at Div f rs rt = (refl, 22, refl)
mul-at Divu f rs rt = (refl, 23, refl)

stop-at : (op : StopOp) (f : Fields) (code : ℕ) →
    FoundAs (record f { op = 0; function = stop_number op; code = code }) (Stop op code)
stop-at Syscall f code = (refl, 26, refl)
stop-at Break f code = (refl, 27, refl)

imm-at : (op : ImmOp) (f : Fields) (rt rs imm : ℕ) →
    FoundAs (record f { op = imm_number op; rs = rs; rt = rt; imm = imm }) (Imm op rt rs imm)
imm-at Addi f rt rs imm = (refl, 28, refl)
imm-at Addiu f rt rs imm = (refl, 29, refl)
imm-at Slti f rt rs imm = (refl, 30, refl)
imm-at Sltiu f rt rs imm = (refl, 31, refl)
imm-at Andi f rt rs imm = (refl, 32, refl)
imm-at Ori f rt rs imm = (refl, 33, refl)
imm-at Xori f rt rs imm = (refl, 34, refl)

load-at : (op : LoadOp) (f : Fields) (rt base offset : ℕ) →
    FoundAs (record f { op = load_number op; rs = base; rt = rt; imm = offset }) (Load op rt base offset)
load-at Lb f rt base offset = (refl, 36, refl)
load-at Lh f rt base offset = (refl, 37, refl)
load-at Lwl f rt base offset = (refl, 38, refl)
load-at Lw f rt base offset = (refl, 39, refl)
load-at Lbu f rt base offset = (refl, 40, refl)
load-at Lhu f rt base offset = (refl, 41, refl)
load-at Lwr f rt base offset = (refl, 42, refl)

store-at : (op : StoreOp) (f : Fields) (rt base offset : ℕ) →
    FoundAs (record f { op = store_number op; rs = base; rt = rt; imm = offset }) (Store op rt base offset)
store-at Sb f rt base offset = (refl, 43, refl)
store-at Sh f rt base offset = (refl, 44, refl)
store-at Swl f rt base offset = (refl, 45, refl)
store-at Sw f rt base offset = (refl, 46, refl)
store-at Swr f rt base offset = (refl, 47, refl)

-- The same, at fields that are equal to those.
at-fields : (f g : Fields) (instr : Instr) → f ≡ g → FoundAs g instr → FoundAs f instr
at-fields f g instr e = subst (λ fields. FoundAs fields instr) (sym e)

-- A branch that compares with zero has register 0 as its second one.
at-zero : (f : Fields) (op : BranchOp) (rs rt offset : ℕ) → rt ≡ 0 → FoundAs f (Branch op rs 0 offset) →
    FoundAs f (Branch op rs rt offset)
at-zero f op rs rt offset z = subst (λ second. FoundAs f (Branch op rs second offset)) (sym z)

pub found-word_of : (instr : Instr) → IsValid instr → FoundAs (fields_of (word_of instr)) instr
found-word_of (Three op rd rs rt) v =
    at-fields _ _ (Three op rd rs rt)
    (fields-register rs rt rd 0 (three_number op) v.1 v.2 v.0 (omega arith) (three_number-small op))
    (three-at op (fields_of (word_of (Three op rd rs rt))) rd rs rt)
found-word_of (Shift op rd rt by) v =
    at-fields _ _ (Shift op rd rt by)
    (fields-register 0 rt rd by (shift_number op) (omega arith) v.1 v.0 v.2 (shift_number-small op))
    (shift-at op (fields_of (word_of (Shift op rd rt by))) rd rt by)
found-word_of (HiLo Mfhi reg) v =
    at-fields _ _ (HiLo Mfhi reg)
    (fields-register 0 0 reg 0 16 (omega arith) (omega arith) v (omega arith) (omega arith))
    (refl, 16, refl)
found-word_of (HiLo Mflo reg) v =
    at-fields _ _ (HiLo Mflo reg)
    (fields-register 0 0 reg 0 18 (omega arith) (omega arith) v (omega arith) (omega arith))
    (refl, 18, refl)
found-word_of (HiLo Mthi reg) v =
    at-fields _ _ (HiLo Mthi reg)
    (fields-register reg 0 0 0 17 v (omega arith) (omega arith) (omega arith) (omega arith))
    (refl, 17, refl)
found-word_of (HiLo Mtlo reg) v =
    at-fields _ _ (HiLo Mtlo reg)
    (fields-register reg 0 0 0 19 v (omega arith) (omega arith) (omega arith) (omega arith))
    (refl, 19, refl)
found-word_of (MulDiv op rs rt) v =
    at-fields _ _ (MulDiv op rs rt)
    (fields-register rs rt 0 0 (mul_number op) v.0 v.1 (omega arith) (omega arith) (mul_number-small op))
    (mul-at op (fields_of (word_of (MulDiv op rs rt))) rs rt)
found-word_of (Imm op rt rs imm) v =
    at-fields _ _ (Imm op rt rs imm) (fields-immediate (imm_number op) rs rt imm (imm_number-small op) v.1 v.0 v.2)
    (imm-at op (fields_of (word_of (Imm op rt rs imm))) rt rs imm)
found-word_of (Lui rt imm) v =
    at-fields _ _ (Lui rt imm) (fields-immediate 15 0 rt imm (omega arith) (omega arith) v.0 v.1)
    (refl, 35, refl)
found-word_of (Load op rt base offset) v =
    at-fields _ _ (Load op rt base offset)
    (fields-immediate (load_number op) base rt offset (load_number-small op) v.1 v.0 v.2)
    (load-at op (fields_of (word_of (Load op rt base offset))) rt base offset)
found-word_of (Store op rt base offset) v =
    at-fields _ _ (Store op rt base offset)
    (fields-immediate (store_number op) base rt offset (store_number-small op) v.1 v.0 v.2)
    (store-at op (fields_of (word_of (Store op rt base offset))) rt base offset)
found-word_of (Branch Bltz rs rt offset) v =
    at-zero (fields_of (immediate_word 1 rs 0 offset)) Bltz rs rt offset v.3
    (at-fields _ _ (Branch Bltz rs 0 offset)
    (fields-immediate 1 rs 0 offset (omega arith) v.0 (omega arith) v.2) (refl, 52, refl))
found-word_of (Branch Bgez rs rt offset) v =
    at-zero (fields_of (immediate_word 1 rs 1 offset)) Bgez rs rt offset v.3
    (at-fields _ _ (Branch Bgez rs 0 offset)
    (fields-immediate 1 rs 1 offset (omega arith) v.0 (omega arith) v.2) (refl, 53, refl))
found-word_of (Branch Bltzal rs rt offset) v =
    at-zero (fields_of (immediate_word 1 rs 16 offset)) Bltzal rs rt offset v.3
    (at-fields _ _ (Branch Bltzal rs 0 offset)
    (fields-immediate 1 rs 16 offset (omega arith) v.0 (omega arith) v.2) (refl, 54, refl))
found-word_of (Branch Bgezal rs rt offset) v =
    at-zero (fields_of (immediate_word 1 rs 17 offset)) Bgezal rs rt offset v.3
    (at-fields _ _ (Branch Bgezal rs 0 offset)
    (fields-immediate 1 rs 17 offset (omega arith) v.0 (omega arith) v.2) (refl, 55, refl))
found-word_of (Branch Beq rs rt offset) v =
    at-fields _ _ (Branch Beq rs rt offset) (fields-immediate 4 rs rt offset (omega arith) v.0 v.1 v.2)
    (refl, 48, refl)
found-word_of (Branch Bne rs rt offset) v =
    at-fields _ _ (Branch Bne rs rt offset) (fields-immediate 5 rs rt offset (omega arith) v.0 v.1 v.2)
    (refl, 49, refl)
found-word_of (Branch Blez rs rt offset) v =
    at-zero (fields_of (immediate_word 6 rs 0 offset)) Blez rs rt offset v.3
    (at-fields _ _ (Branch Blez rs 0 offset)
    (fields-immediate 6 rs 0 offset (omega arith) v.0 (omega arith) v.2) (refl, 50, refl))
found-word_of (Branch Bgtz rs rt offset) v =
    at-zero (fields_of (immediate_word 7 rs 0 offset)) Bgtz rs rt offset v.3
    (at-fields _ _ (Branch Bgtz rs 0 offset)
    (fields-immediate 7 rs 0 offset (omega arith) v.0 (omega arith) v.2) (refl, 51, refl))
found-word_of (Jump true index) v =
    at-fields _ _ (Jump true index) (fields-jump 3 index (omega arith) v)
    (refl, 57, refl)
found-word_of (Jump false index) v =
    at-fields _ _ (Jump false index) (fields-jump 2 index (omega arith) v)
    (refl, 56, refl)
found-word_of (JumpReg rs) v =
    at-fields _ _ (JumpReg rs) (fields-register rs 0 0 0 8 v (omega arith) (omega arith) (omega arith) (omega arith))
    (refl, 24, refl)
found-word_of (JumpLink rd rs) v =
    at-fields _ _ (JumpLink rd rs) (fields-register rs 0 rd 0 9 v.1 (omega arith) v.0 (omega arith) (omega arith))
    (refl, 25, refl)
found-word_of (Stop op code) v =
    at-fields _ _ (Stop op code) (fields-stop code (stop_number op) v (stop_number-small op))
    (stop-at op (fields_of (word_of (Stop op code))) code)
