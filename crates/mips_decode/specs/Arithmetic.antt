-- The number that each operation computes. A register holds 32 bits as a number below 2 ^ 32.
use Rattle.std.specs.Prelude.{ℕ, Bool, ◌+◌, ◌-◌, ◌*◌, ◌/◌, ◌%◌, ◌^◌, nat_lt, ℤ, pos, negsuc, ◌+ℤ◌, ◌-ℤ◌, int_lt, bit_and, bit_or, bit_xor, Option, Some, None, if◌then◌else◌}
use Rattle.std.specs.Int.{w32, cast_signed, cast_unsigned, int_shr, from_bool}
use Rattle.mips_decode.specs.declared.instr.Op3.{Op3}
use Rattle.mips_decode.specs.declared.instr.Op3.TheVariants.{Sllv, Srlv, Srav, Add, Addu, Sub, Subu, And, Or, Xor, Nor, Slt, Sltu}
use Rattle.mips_decode.specs.declared.instr.ShiftOp.{ShiftOp}
use Rattle.mips_decode.specs.declared.instr.ShiftOp.TheVariants.{Sll, Srl, Sra}
use Rattle.mips_decode.specs.declared.instr.ImmOp.{ImmOp}
use Rattle.mips_decode.specs.declared.instr.ImmOp.TheVariants.{Addi, Addiu, Slti, Sltiu, Andi, Ori, Xori}

-- The signed number that a register's bits stand for, in two's complement.
abbrev pub signed : ℕ → ℤ
signed number = cast_signed w32 number

abbrev pub fits_signed : ℤ → Bool
fits_signed (pos n) = nat_lt n (2 ^ 31)
fits_signed (negsuc n) = nat_lt n (2 ^ 31)

-- A signed result as a register's bits; none where it overflows.
abbrev pub signed_result : ℤ → Option ℕ
signed_result result = if fits_signed result then Some (cast_unsigned w32 result) else None

-- Sixteen bits with their highest one repeated above them.
abbrev pub sign_extended : ℕ → ℕ
sign_extended imm = if nat_lt imm (2 ^ 15) then imm else imm + (2 ^ 32 - 2 ^ 16)

-- The three shifts, by less than 32 bits: bits that leave the register are lost.
-- The arithmetic shift repeats the sign bit.
abbrev pub shift_value : ShiftOp → ℕ → ℕ → ℕ
shift_value Sll number by = number * 2 ^ by % 2 ^ 32
shift_value Srl number by = number / 2 ^ by
shift_value Sra number by = cast_unsigned w32 (int_shr (signed number) by)

-- Addition and subtraction modulo 2 ^ 32, which don't overflow.
abbrev pub wrapping_sum : ℕ → ℕ → ℕ
wrapping_sum s t = (s + t) % 2 ^ 32

abbrev pub wrapping_difference : ℕ → ℕ → ℕ
wrapping_difference s t = (s + (2 ^ 32 - t)) % 2 ^ 32

-- 1 where the first number is less than the second, else 0: as signed numbers, and as unsigned.
abbrev pub is_less_signed : ℕ → ℕ → ℕ
is_less_signed s t = from_bool (int_lt (signed s) (signed t))

abbrev pub is_less : ℕ → ℕ → ℕ
is_less s t = from_bool (nat_lt s t)

-- An operation on rs and rt. Variable shifts shift rt by the low five bits of rs.
abbrev pub three_value : Op3 → ℕ → ℕ → Option ℕ
three_value Sllv s t = Some (shift_value Sll t (s % 32))
three_value Srlv s t = Some (shift_value Srl t (s % 32))
three_value Srav s t = Some (shift_value Sra t (s % 32))
three_value Add s t = signed_result (signed s +ℤ signed t)
three_value Addu s t = Some (wrapping_sum s t)
three_value Sub s t = signed_result (signed s -ℤ signed t)
three_value Subu s t = Some (wrapping_difference s t)
three_value And s t = Some (bit_and s t)
three_value Or s t = Some (bit_or s t)
three_value Xor s t = Some (bit_xor s t)
three_value Nor s t = Some (2 ^ 32 - 1 - bit_or s t)
three_value Slt s t = Some (is_less_signed s t)
three_value Sltu s t = Some (is_less s t)

-- An operation on rs and the immediate, which arithmetic and comparisons sign-extend
-- and the logical operations zero-extend.
abbrev pub imm_value : ImmOp → ℕ → ℕ → Option ℕ
imm_value Addi s imm = signed_result (signed s +ℤ signed (sign_extended imm))
imm_value Addiu s imm = Some (wrapping_sum s (sign_extended imm))
imm_value Slti s imm = Some (is_less_signed s (sign_extended imm))
imm_value Sltiu s imm = Some (is_less s (sign_extended imm))
imm_value Andi s imm = Some (bit_and s imm)
imm_value Ori s imm = Some (bit_or s imm)
imm_value Xori s imm = Some (bit_xor s imm)
