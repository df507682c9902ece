-- What the inner functions of the decoder promise: the instruction of a word's fields, found by op, fn and rt. This is
-- for their contracts alone. What `decode` promises is `decoded` of Decoded.antt, which the table gives.
use Rattle.std.specs.Prelude.{ℕ, ◌==◌, ◌&&◌, true, false, find, Option, Some, None, if◌then◌else◌}
use Rattle.std.specs.Bool.{then_some}
use Rattle.std.specs.Option.{option_map_or}
use Rattle.mips_decode.specs.declared.fields.Fields.{Fields}
use Rattle.mips_decode.specs.declared.instr.Op3.{Op3}
use Rattle.mips_decode.specs.declared.instr.ShiftOp.{ShiftOp}
use Rattle.mips_decode.specs.declared.instr.HiLoOp.{HiLoOp}
use Rattle.mips_decode.specs.declared.instr.HiLoOp.TheVariants.{Mfhi, Mthi, Mflo, Mtlo}
use Rattle.mips_decode.specs.declared.instr.MulOp.{MulOp}
use Rattle.mips_decode.specs.declared.instr.ImmOp.{ImmOp}
use Rattle.mips_decode.specs.declared.instr.LoadOp.{LoadOp}
use Rattle.mips_decode.specs.declared.instr.StoreOp.{StoreOp}
use Rattle.mips_decode.specs.declared.instr.BranchOp.{BranchOp}
use Rattle.mips_decode.specs.declared.instr.BranchOp.TheVariants.{Beq, Bne, Blez, Bgtz, Bltz, Bgez, Bltzal, Bgezal}
use Rattle.mips_decode.specs.declared.instr.StopOp.{StopOp}
use Rattle.mips_decode.specs.declared.instr.Instr.{Instr}
use Rattle.mips_decode.specs.declared.instr.Instr.TheVariants.{Three, Shift, HiLo, MulDiv, Imm, Lui, Load, Store, Branch, Jump, JumpReg, JumpLink, Stop}
use Rattle.mips_decode.specs.Table.{three_number, three_ops, shift_number, shift_ops, hi_lo_number, hi_lo_ops, mul_number, mul_ops, stop_number, stop_ops, imm_number, imm_ops, load_number, load_ops, store_number, store_ops}

-- The operation that has a number in its column of the table.
abbrev pub three_op : ℕ → Option Op3
three_op number = find (λ op. number == three_number op) three_ops

abbrev pub shift_op : ℕ → Option ShiftOp
shift_op number = find (λ op. number == shift_number op) shift_ops

abbrev pub hi_lo_op : ℕ → Option HiLoOp
hi_lo_op number = find (λ op. number == hi_lo_number op) hi_lo_ops

abbrev pub mul_op : ℕ → Option MulOp
mul_op number = find (λ op. number == mul_number op) mul_ops

abbrev pub stop_op : ℕ → Option StopOp
stop_op number = find (λ op. number == stop_number op) stop_ops

abbrev pub imm_op : ℕ → Option ImmOp
imm_op number = find (λ op. number == imm_number op) imm_ops

abbrev pub load_op : ℕ → Option LoadOp
load_op number = find (λ op. number == load_number op) load_ops

abbrev pub store_op : ℕ → Option StoreOp
store_op number = find (λ op. number == store_number op) store_ops

-- An instruction stands in the table only where its empty fields are 0.
abbrev pub three : Fields → Op3 → Option Instr
three fields op = then_some (fields.sa == 0) (Three op fields.rd fields.rs fields.rt)

abbrev pub shift : Fields → ShiftOp → Option Instr
shift fields op = then_some (fields.rs == 0) (Shift op fields.rd fields.rt fields.sa)

abbrev pub move_from : Fields → HiLoOp → Option Instr
move_from fields op =
    then_some (fields.rs == 0 && fields.rt == 0 && fields.sa == 0) (HiLo op fields.rd)

abbrev pub move_to : Fields → HiLoOp → Option Instr
move_to fields op =
    then_some (fields.rt == 0 && fields.rd == 0 && fields.sa == 0) (HiLo op fields.rs)

abbrev pub hi_lo : Fields → HiLoOp → Option Instr
hi_lo fields Mfhi = move_from fields Mfhi
hi_lo fields Mthi = move_to fields Mthi
hi_lo fields Mflo = move_from fields Mflo
hi_lo fields Mtlo = move_to fields Mtlo

abbrev pub mul_div : Fields → MulOp → Option Instr
mul_div fields op = then_some (fields.rd == 0 && fields.sa == 0) (MulDiv op fields.rs fields.rt)

abbrev pub stop : Fields → StopOp → Option Instr
stop fields op = Some (Stop op fields.code)

abbrev pub jump_reg : Fields → Option Instr
jump_reg fields =
    then_some (fields.rt == 0 && fields.rd == 0 && fields.sa == 0) (JumpReg fields.rs)

abbrev pub jump_link : Fields → Option Instr
jump_link fields = then_some (fields.rt == 0 && fields.sa == 0) (JumpLink fields.rd fields.rs)

-- The jumps of op 0.
abbrev pub register_jump : Fields → Option Instr
register_jump fields =
    if fields.function == 8 then jump_reg fields
    else if fields.function == 9 then jump_link fields
    else None

-- The operations of op 0, by fn.
abbrev pub special : Fields → Option Instr
special fields =
    option_map_or (three fields) (three_op fields.function)
    (option_map_or (shift fields) (shift_op fields.function)
    (option_map_or (hi_lo fields) (hi_lo_op fields.function)
    (option_map_or (mul_div fields) (mul_op fields.function)
    (option_map_or (stop fields) (stop_op fields.function) (register_jump fields)))))

abbrev pub upper : Fields → Option Instr
upper fields = then_some (fields.rs == 0) (Lui fields.rt fields.imm)

abbrev pub immediate : Fields → ImmOp → Option Instr
immediate fields op = Some (Imm op fields.rt fields.rs fields.imm)

abbrev pub load : Fields → LoadOp → Option Instr
load fields op = Some (Load op fields.rt fields.rs fields.imm)

abbrev pub store : Fields → StoreOp → Option Instr
store fields op = Some (Store op fields.rt fields.rs fields.imm)

-- The branches of op 1, by rt: they compare a register with zero.
abbrev pub sign_branch : Fields → BranchOp → Option Instr
sign_branch fields op = Some (Branch op fields.rs 0 fields.imm)

abbrev pub sign_branches : Fields → Option Instr
sign_branches fields =
    if fields.rt == 0 then sign_branch fields Bltz
    else if fields.rt == 1 then sign_branch fields Bgez
    else if fields.rt == 16 then sign_branch fields Bltzal
    else if fields.rt == 17 then sign_branch fields Bgezal
    else None

-- A branch that compares two registers, and one that compares a register with zero.
abbrev pub equal_branch : Fields → BranchOp → Option Instr
equal_branch fields op = Some (Branch op fields.rs fields.rt fields.imm)

abbrev pub zero_branch : Fields → BranchOp → Option Instr
zero_branch fields op = then_some (fields.rt == 0) (Branch op fields.rs fields.rt fields.imm)

-- What isn't a load, a store or an operation on an immediate, by op.
abbrev pub by_op : Fields → Option Instr
by_op fields =
    if fields.op == 0 then special fields
    else if fields.op == 1 then sign_branches fields
    else if fields.op == 2 then Some (Jump false fields.index)
    else if fields.op == 3 then Some (Jump true fields.index)
    else if fields.op == 4 then equal_branch fields Beq
    else if fields.op == 5 then equal_branch fields Bne
    else if fields.op == 6 then zero_branch fields Blez
    else if fields.op == 7 then zero_branch fields Bgtz
    else if fields.op == 15 then upper fields
    else None

-- The instruction of a word's fields, by op.
abbrev pub by_fields : Fields → Option Instr
by_fields fields =
    option_map_or (immediate fields) (imm_op fields.op)
    (option_map_or (load fields) (load_op fields.op)
    (option_map_or (store fields) (store_op fields.op) (by_op fields)))
