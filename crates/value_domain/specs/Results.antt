-- The spans of an operation's results.
use Rattle.std.specs.Prelude.{ℕ, ◌+◌, ◌-◌, ◌*◌, ◌/◌, ◌%◌, ◌^◌, ◌==◌, ◌&&◌, nat_lt, nat_le, min, max, bit_and, bit_or, bit_xor, if◌then◌else◌}
use Rattle.mips_decode.specs.declared.instr.Op3.{Op3}
use Rattle.mips_decode.specs.declared.instr.Op3.TheVariants.{Sllv, Srlv, Srav, Add, Addu, Sub, Subu, And, Or, Xor, Nor, Slt, Sltu}
use Rattle.mips_decode.specs.declared.instr.ShiftOp.{ShiftOp}
use Rattle.mips_decode.specs.declared.instr.ShiftOp.TheVariants.{Sll, Srl, Sra}
use Rattle.mips_decode.specs.declared.instr.ImmOp.{ImmOp}
use Rattle.mips_decode.specs.declared.instr.ImmOp.TheVariants.{Addi, Addiu, Slti, Sltiu, Andi, Ori, Xori}
use Rattle.mips_decode.specs.Arithmetic.{sign_extended}
use Rattle.value_domain.specs.Divisors.{divides, gcd}
use Rattle.value_domain.specs.Spans.{Span, single, everything, between, is_single}

-- Exact numbers modulo 2 ^ 32: where both ends wrap equally often, all numbers between them do, and the span is
-- exact. Where some wrap more often than others, it is everything.
unfoldable pub wrapped : (lo hi step : ℕ) → Span
wrapped lo hi step =
    if lo / 2 ^ 32 == hi / 2 ^ 32
    then record { lo = lo % 2 ^ 32; hi = hi % 2 ^ 32; step = step }
    else everything

-- Sums and differences. A difference adds 2 ^ 32 first, so that it isn't below 0.
unfoldable pub added : Span → Span → Span
added a b = wrapped (a.lo + b.lo) (a.hi + b.hi) (gcd a.step b.step)

unfoldable pub taken_from : Span → Span → Span
taken_from a b = wrapped (a.lo + (2 ^ 32 - b.hi)) (a.hi + (2 ^ 32 - b.lo)) (gcd a.step b.step)

-- The numbers moved by 2 ^ 31, so that signed numbers are in the order of unsigned ones.
unfoldable pub turned : Span → Span
turned a = added a (single (2 ^ 31))

-- 1 where the first number is surely less, 0 where it surely isn't.
unfoldable pub compared : Span → Span → Span
compared a b =
    if nat_lt a.hi b.lo then single 1 else if nat_le b.hi a.lo then single 0 else between 0 1

unfoldable pub compared_signed : Span → Span → Span
compared_signed a b = compared (turned a) (turned b)

-- Bit by bit: exact for one number each, else the ends that no result passes.
abbrev pub exact_or : (value : ℕ → ℕ → ℕ) (a b bounds : Span) → Span
exact_or value a b bounds = if is_single a && is_single b then single (value a.lo b.lo) else bounds

unfoldable pub anded : Span → Span → Span
anded a b = exact_or bit_and a b (between 0 (min a.hi b.hi))

-- No bit of `x | y` or of `x ^ y` is missing in x + y.
unfoldable pub ored : Span → Span → Span
ored a b = exact_or bit_or a b (between (max a.lo b.lo) (min (a.hi + b.hi) (2 ^ 32 - 1)))

unfoldable pub xored : Span → Span → Span
xored a b = exact_or bit_xor a b (between 0 (min (a.hi + b.hi) (2 ^ 32 - 1)))

-- Each bit turned over.
unfoldable pub inverted : Span → Span
inverted a = record { lo = 2 ^ 32 - 1 - a.hi; hi = 2 ^ 32 - 1 - a.lo; step = a.step }

unfoldable pub nored : Span → Span → Span
nored a b = inverted (ored a b)

-- Shifts. A shift to the right keeps the step where it loses no bit of it.
unfoldable pub shifted_left : Span → ℕ → Span
shifted_left a by = wrapped (a.lo * 2 ^ by) (a.hi * 2 ^ by) (a.step * 2 ^ by)

unfoldable pub shifted_right : Span → ℕ → Span
shifted_right a by =
    if divides (2 ^ by) a.step
    then record { lo = a.lo / 2 ^ by; hi = a.hi / 2 ^ by; step = a.step / 2 ^ by }
    else between (a.lo / 2 ^ by) (a.hi / 2 ^ by)

-- The shift that repeats the sign: of the numbers moved by 2 ^ 31, which is then taken away again.
unfoldable pub shifted_signed : Span → ℕ → Span
shifted_signed a by = added (shifted_right (turned a) by) (single (2 ^ 32 - 2 ^ (31 - by)))

abbrev pub shift_span : ShiftOp → Span → ℕ → Span
shift_span Sll a by = shifted_left a by
shift_span Srl a by = shifted_right a by
shift_span Sra a by = shifted_signed a by

-- A shift by the low five bits of another span: everything where that isn't one number.
unfoldable pub varied : ShiftOp → Span → Span → Span
varied op a by = if is_single by then shift_span op a (by.lo % 32) else everything

-- An operation on two registers. ADD and SUB trap on overflow; what they give else is what ADDU and SUBU give.
abbrev pub three_span : Op3 → Span → Span → Span
three_span Sllv a b = varied Sll b a
three_span Srlv a b = varied Srl b a
three_span Srav a b = varied Sra b a
three_span Add a b = added a b
three_span Addu a b = added a b
three_span Sub a b = taken_from a b
three_span Subu a b = taken_from a b
three_span And a b = anded a b
three_span Or a b = ored a b
three_span Xor a b = xored a b
three_span Nor a b = nored a b
three_span Slt a b = compared_signed a b
three_span Sltu a b = compared a b

-- An operation on a register and an immediate.
abbrev pub imm_span : ImmOp → Span → ℕ → Span
imm_span Addi a imm = added a (single (sign_extended imm))
imm_span Addiu a imm = added a (single (sign_extended imm))
imm_span Slti a imm = compared_signed a (single (sign_extended imm))
imm_span Sltiu a imm = compared a (single (sign_extended imm))
imm_span Andi a imm = anded a (single imm)
imm_span Ori a imm = ored a (single imm)
imm_span Xori a imm = xored a (single imm)
