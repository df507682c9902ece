-- What the plain instructions do to the values.
use Rattle.std.specs.Prelude.{ℕ, ◌+◌, ◌-◌, ◌*◌, ◌/◌, ◌%◌, ◌^◌, ◌==◌, int_div, int_rem, ◌*ℤ◌, List, [], ◌∷◌, find, slice_index, slice_set, Option, Some, None, option_map, if◌then◌else◌}
use Rattle.std.specs.Int.{w32, w64, cast_unsigned}
use Rattle.mips_decode.specs.declared.instr.HiLoOp.TheVariants.{Mfhi, Mthi, Mflo, Mtlo}
use Rattle.mips_decode.specs.declared.instr.MulOp.{MulOp}
use Rattle.mips_decode.specs.declared.instr.MulOp.TheVariants.{Mult, Multu, Div, Divu}
use Rattle.mips_decode.specs.declared.instr.LoadOp.{LoadOp}
use Rattle.mips_decode.specs.declared.instr.StoreOp.{StoreOp}
use Rattle.mips_decode.specs.declared.instr.StopOp.TheVariants.{Syscall, Break as BreakOp}
use Rattle.mips_decode.specs.declared.instr.Instr.{Instr}
use Rattle.mips_decode.specs.declared.instr.Instr.TheVariants.{Three, Shift, HiLo, MulDiv, Imm, Lui, Load, Store, Branch, Jump, JumpReg, JumpLink, Stop}
use Rattle.mips_decode.specs.declared.step.Regs.{Regs}
use Rattle.mips_decode.specs.declared.step.TrapKind.{TrapKind}
use Rattle.mips_decode.specs.declared.step.TrapKind.TheVariants.{Overflow, Misaligned, Outside, ReadOnly, Break}
use Rattle.mips_decode.specs.declared.step.TrapKind.TheVariants.{Syscall as SystemCall}
use Rattle.mips_decode.specs.declared.step.Touched.{Touched}
use Rattle.mips_decode.specs.Arithmetic.{shift_value, three_value, imm_value, signed, sign_extended}
use Rattle.mips_decode.specs.Memory.{number_at, with_number, load_touched, store_touched, load_value, store_value}
use Rattle.mips_decode.specs.State.{Region, State, covers, is_writable}

-- An instruction's effect: the load or store that it made with the new values, or its trap.
pub data Effect : Type 0 where
  Does : (access : Option Touched) (state : State) → Effect
  Traps : (kind : TrapKind) → Effect

-- The number in a register.
abbrev pub reg : Regs → ℕ → ℕ
reg regs number = slice_index regs.general number

-- A register is written; register 0 stays 0.
abbrev pub with_reg : Regs → ℕ → ℕ → Regs
with_reg regs number value =
    if number == 0 then regs else record regs { general = slice_set regs.general number value }

abbrev pub with_hi_lo : Regs → (hi lo : ℕ) → Regs
with_hi_lo regs hi lo = record regs { hi = hi; lo = lo }

-- A product of 64 bits is left in HI, the upper half, and LO.
abbrev pub with_product : Regs → ℕ → Regs
with_product regs product = with_hi_lo regs (product / 2 ^ 32) (product % 2 ^ 32)

-- HI and LO after a multiplication or division. The quotient, rounded to zero, is left in LO, and
-- the remainder, with the dividend's sign, in HI. The architecture leaves a division by zero open:
-- here it gives HI = LO = 0. The least number by -1 gives the quotient 2 ^ 31, whose bits are
-- those of the least number.
abbrev pub multiplied : MulOp → ℕ → ℕ → Regs → Regs
multiplied Mult s t regs = with_product regs (cast_unsigned w64 (signed s *ℤ signed t))
multiplied Multu s t regs = with_product regs (s * t)
multiplied Div s t regs =
    if t == 0
    then with_hi_lo regs 0 0
    else with_hi_lo regs (cast_unsigned w32 (int_rem (signed s) (signed t)))
    (cast_unsigned w32 (int_div (signed s) (signed t)))
multiplied Divu s t regs =
    if t == 0 then with_hi_lo regs 0 0 else with_hi_lo regs (s % t) (s / t)

-- The registers after an arithmetic instruction; none where the signed result overflows.
-- The other instructions change no register here: a jump's link is written when it is decided,
-- and a load's register by its access.
abbrev pub arithmetic : Instr → Regs → Option Regs
arithmetic (Three op rd rs rt) regs =
    option_map (with_reg regs rd) (three_value op (reg regs rs) (reg regs rt))
arithmetic (Shift op rd rt by) regs = Some (with_reg regs rd (shift_value op (reg regs rt) by))
arithmetic (HiLo Mfhi number) regs = Some (with_reg regs number regs.hi)
arithmetic (HiLo Mthi number) regs = Some (record regs { hi = reg regs number })
arithmetic (HiLo Mflo number) regs = Some (with_reg regs number regs.lo)
arithmetic (HiLo Mtlo number) regs = Some (record regs { lo = reg regs number })
arithmetic (MulDiv op rs rt) regs = Some (multiplied op (reg regs rs) (reg regs rt) regs)
arithmetic (Imm op rt rs imm) regs = option_map (with_reg regs rt) (imm_value op (reg regs rs) imm)
arithmetic (Lui rt imm) regs = Some (with_reg regs rt (imm * 2 ^ 16))
arithmetic (Load op rt base offset) regs = Some regs
arithmetic (Store op rt base offset) regs = Some regs
arithmetic (Branch op rs rt offset) regs = Some regs
arithmetic (Jump link index) regs = Some regs
arithmetic (JumpReg rs) regs = Some regs
arithmetic (JumpLink rd rs) regs = Some regs
arithmetic (Stop op code) regs = Some regs

abbrev pub on_registers : State → Option Regs → Effect
on_registers s None = Traps Overflow
on_registers s (Some regs) = Does None (record s { regs = regs })

-- The address of a load or store: its base register and its signed offset.
abbrev pub address_of : Regs → (base offset : ℕ) → ℕ
address_of regs base offset = (reg regs base + sign_extended offset) % 2 ^ 32

-- The region that holds all bytes of an access.
abbrev pub region_of : Touched → List Region → Option Region
region_of access regions = find (covers access.address access.size) regions

-- The number that an access finds in its region.
abbrev pub number_in : Touched → Region → ℕ
number_in access region = number_at access.size (access.address - region.start) region.bytes

-- The regions with the number of an access put into the region that holds it.
abbrev pub region_with : Touched → ℕ → Region → Region
region_with access number region =
    record region { bytes = with_number number access.size (access.address - region.start) region.bytes }

abbrev pub regions_with : Touched → ℕ → List Region → List Region
regions_with access number [] = []
regions_with access number (region ∷ regions) =
    if covers access.address access.size region
    then region_with access number region ∷ regions
    else region ∷ regions_with access number regions

-- An access at an address that isn't a multiple of its size is misaligned.
abbrev pub aligned_or : Touched → Effect → Effect
aligned_or access done = if access.address % access.size == 0 then done else Traps Misaligned

-- A load at an address, with the region that holds its access.
abbrev pub load_in : State → LoadOp → (rt address : ℕ) → Option Region → Effect
load_in s op rt address None = Traps Outside
load_in s op rt address (Some region) =
    let access = load_touched op address in
    let value = load_value op (address % 4) (reg s.regs rt) (number_in access region) in
    Does (Some access) (record s { regs = with_reg s.regs rt value })

abbrev pub loaded : State → LoadOp → (rt address : ℕ) → Effect
loaded s op rt address =
    let access = load_touched op address in
    aligned_or access (load_in s op rt address (region_of access s.regions))

-- A store at an address, with the region that holds its access: one that can't be written traps.
abbrev pub store_in : State → StoreOp → (rt address : ℕ) → Option Region → Effect
store_in s op rt address None = Traps Outside
store_in s op rt address (Some region) =
    let access = store_touched op address in
    let number = store_value op (address % 4) (number_in access region) (reg s.regs rt) in
    if is_writable region
    then Does (Some access) (record s { regions = regions_with access number s.regions })
    else Traps ReadOnly

abbrev pub stored : State → StoreOp → (rt address : ℕ) → Effect
stored s op rt address =
    let access = store_touched op address in
    aligned_or access (store_in s op rt address (region_of access s.regions))

-- The effect of an instruction at its state.
abbrev pub effect : Instr → State → Effect
effect (Load op rt base offset) s = loaded s op rt (address_of s.regs base offset)
effect (Store op rt base offset) s = stored s op rt (address_of s.regs base offset)
effect (Stop Syscall code) s = Traps SystemCall
effect (Stop BreakOp code) s = Traps Break
effect instr s = on_registers s (arithmetic instr s.regs)
