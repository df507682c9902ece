-- Register 0 stays 0, and what an instruction that takes effect is and touches.
use Rattle.std.proofs.Common.{◌≡◌, ℕ, zero, suc, ◌%◌, ◌^◌, ◌<◌, ◌==◌, Bool, true, false, cond, List, [], ◌∷◌, Option, Some, None, refl, ap, sym, subst, ◌∙◌, arith}
use Rattle.std.specs.Prelude.{option_map, slice_set, slice_index}
use Rattle.mips_decode.specs.declared.instr.LoadOp.{LoadOp}
use Rattle.mips_decode.specs.declared.instr.LoadOp.TheVariants.{Lb, Lh, Lwl, Lw, Lbu, Lhu, Lwr}
use Rattle.mips_decode.specs.declared.instr.StoreOp.{StoreOp}
use Rattle.mips_decode.specs.declared.instr.StoreOp.TheVariants.{Sb, Sh, Swl, Sw, Swr}
use Rattle.mips_decode.specs.declared.instr.StopOp.TheVariants.{Syscall, Break}
use Rattle.mips_decode.specs.declared.instr.HiLoOp.TheVariants.{Mfhi, Mthi, Mflo, Mtlo}
use Rattle.mips_decode.specs.declared.instr.MulOp.{MulOp}
use Rattle.mips_decode.specs.declared.instr.MulOp.TheVariants.{Mult, Multu, Div, Divu}
use Rattle.mips_decode.specs.declared.instr.Instr.{Instr}
use Rattle.mips_decode.specs.declared.instr.Instr.TheVariants.{Three, Shift, HiLo, MulDiv, Imm, Lui, Load, Store, Branch, Jump, JumpReg, JumpLink, Stop}
use Rattle.mips_decode.specs.declared.step.Regs.{Regs}
use Rattle.mips_decode.specs.declared.step.Touched.{Touched}
use Rattle.mips_decode.specs.declared.step.TrapKind.TheVariants.{Misaligned, ReadOnly}
use Rattle.mips_decode.specs.State.{Region, State, is_writable}
use Rattle.mips_decode.specs.Memory.{load_touched, store_touched, load_value, store_value}
use Rattle.mips_decode.specs.Arithmetic.{imm_value, three_value}
use Rattle.mips_decode.specs.Effect.{Effect, Does, Traps, reg, with_reg, multiplied, on_registers, address_of, region_of, number_in, regions_with, load_in, store_in, effect}
use Rattle.net_model.specs.Onward.{is_stop}

-- Register 0 is 0.
abbrev pub IsZero : Regs → Type 0
IsZero regs = reg regs 0 ≡ 0

-- A register other than 0 is written beside it.
first-kept : (numbers : List ℕ) (n value : ℕ) → slice_index (slice_set numbers (suc n) value) 0 ≡ slice_index numbers 0
first-kept [] n value = refl
first-kept (x ∷ xs) n value = refl

with_reg-by : (b : Bool) (regs : Regs) (number value : ℕ) → (number == 0) ≡ b → IsZero regs →
    IsZero (cond b regs (record regs { general = slice_set regs.general number value }))
with_reg-by true regs number value same is = is
with_reg-by false regs zero value same is = absurd (let no : true ≡ false = same in cc)
with_reg-by false regs (suc n) value same is = first-kept regs.general n value ∙ is

pub with_reg-zero : (regs : Regs) (number value : ℕ) → IsZero regs → IsZero (with_reg regs number value)
with_reg-zero regs number value is = with_reg-by (number == 0) regs number value refl is

-- An access loads, stores, or there is none.
abbrev pub touch : Instr → Option Bool
touch (Load op rt base offset) = Some false
touch (Store op rt base offset) = Some true
touch instr = None

-- A load or store goes to an address of 32 bits.
abbrev pub IsLow : Option Touched → Type 0
IsLow None = Unit {0}
IsLow (Some access) = access.address < 2 ^ 32

-- What an effect that takes place says: register 0 stays 0, the instruction doesn't stop the run, and its load or store
-- is its own, at an address of 32 bits.
pub record TakesEffect (instr : Instr) (access : Option Touched) (t : State) : Type 0 where
  pub zero : IsZero t.regs
  pub goes : is_stop instr ≡ false
  pub touches : option_map (λ (a : Touched). a.store) access ≡ touch instr
  pub low : IsLow access

abbrev pub IsEffect : Instr → Effect → Type 0
IsEffect instr (Does access t) = TakesEffect instr access t
IsEffect instr (Traps kind) = Unit {0}

-- An instruction that works on registers alone.
on_registers-effect : (instr : Instr) (s : State) (o : Option Regs) → is_stop instr ≡ false → touch instr ≡ None →
    ((regs : Regs) → o ≡ Some regs → IsZero regs) → IsEffect instr (on_registers s o)
on_registers-effect instr s None goes touches is = tt
on_registers-effect instr s (Some regs) goes touches is = record { zero = is regs refl; goes = goes; touches = sym touches; low = tt }

result-zero : (regs : Regs) (number : ℕ) (o : Option ℕ) (result : Regs) → IsZero regs →
    option_map (with_reg regs number) o ≡ Some result → IsZero result
result-zero regs number None result is same = cc
result-zero regs number (Some value) result is same =
    let here : with_reg regs number value ≡ result = cc in
    subst IsZero here (with_reg-zero regs number value is)

some-zero : (regs result : Regs) → IsZero regs → Some regs ≡ Some result → IsZero result
some-zero regs result is same = let here : regs ≡ result = cc in subst IsZero here is

divided-zero : (b : Bool) (r q : Regs) → IsZero r → IsZero q → IsZero (cond b r q)
divided-zero true r q first second = first
divided-zero false r q first second = second

multiplied-zero : (op : MulOp) (s t : ℕ) (regs : Regs) → IsZero regs → IsZero (multiplied op s t regs)
multiplied-zero Mult s t regs is = is
multiplied-zero Multu s t regs is = is
multiplied-zero Div s t regs is = divided-zero (t == 0) _ _ is is
multiplied-zero Divu s t regs is = divided-zero (t == 0) _ _ is is

aligned_or-effect : (instr : Instr) (b : Bool) (done : Effect) → IsEffect instr done → IsEffect instr (cond b done (Traps Misaligned))
aligned_or-effect instr true done is = is
aligned_or-effect instr false done is = tt

load-touched : (op : LoadOp) (address : ℕ) → (load_touched op address).store ≡ false
load-touched Lb address = refl
load-touched Lh address = refl
load-touched Lwl address = refl
load-touched Lw address = refl
load-touched Lbu address = refl
load-touched Lhu address = refl
load-touched Lwr address = refl

store-touched : (op : StoreOp) (address : ℕ) → (store_touched op address).store ≡ true
store-touched Sb address = refl
store-touched Sh address = refl
store-touched Swl address = refl
store-touched Sw address = refl
store-touched Swr address = refl

load-low : (op : LoadOp) (address : ℕ) → address < 2 ^ 32 → (load_touched op address).address < 2 ^ 32
load-low Lb address low = low
load-low Lh address low = low
load-low Lwl address low = omega (arith, low)
load-low Lw address low = low
load-low Lbu address low = low
load-low Lhu address low = low
load-low Lwr address low = omega (arith, low)

store-low : (op : StoreOp) (address : ℕ) → address < 2 ^ 32 → (store_touched op address).address < 2 ^ 32
store-low Sb address low = low
store-low Sh address low = low
store-low Swl address low = omega (arith, low)
store-low Sw address low = low
store-low Swr address low = omega (arith, low)

load_in-effect : (s : State) (op : LoadOp) (rt base offset address : ℕ) (o : Option Region) → IsZero s.regs → address < 2 ^ 32 →
    IsEffect (Load op rt base offset) (load_in s op rt address o)
load_in-effect s op rt base offset address None is low = tt
load_in-effect s op rt base offset address (Some region) is low = record {
  zero = with_reg-zero s.regs rt (load_value op (address % 4) (reg s.regs rt) (number_in (load_touched op address) region)) is;
  goes = refl;
  touches = ap Some (load-touched op address);
  low = load-low op address low;
}

store_by-effect : (s : State) (op : StoreOp) (rt base offset address number : ℕ) (b : Bool) → IsZero s.regs → address < 2 ^ 32 →
    IsEffect (Store op rt base offset)
    (cond b (Does (Some (store_touched op address)) (record s { regions = regions_with (store_touched op address) number s.regions })) (Traps ReadOnly))
store_by-effect s op rt base offset address number true is low = record {
  zero = is;
  goes = refl;
  touches = ap Some (store-touched op address);
  low = store-low op address low;
}
store_by-effect s op rt base offset address number false is low = tt

store_in-effect : (s : State) (op : StoreOp) (rt base offset address : ℕ) (o : Option Region) → IsZero s.regs → address < 2 ^ 32 →
    IsEffect (Store op rt base offset) (store_in s op rt address o)
store_in-effect s op rt base offset address None is low = tt
store_in-effect s op rt base offset address (Some region) is low =
    store_by-effect s op rt base offset address
    (store_value op (address % 4) (number_in (store_touched op address) region) (reg s.regs rt)) (is_writable region) is low

address_of-low : (s : State) (base offset : ℕ) → address_of s.regs base offset < 2 ^ 32
address_of-low s base offset = omega arith

-- What each instruction's effect says, where register 0 is 0 before.
pub effect-takes : (instr : Instr) (s : State) → IsZero s.regs → IsEffect instr (effect instr s)
effect-takes (Three op rd rs rt) s is =
    on_registers-effect (Three op rd rs rt) s _ refl refl (λ regs same. result-zero s.regs rd (three_value op (reg s.regs rs) (reg s.regs rt)) regs is same)
effect-takes (Shift op rd rt by) s is =
    on_registers-effect (Shift op rd rt by) s _ refl refl (λ regs same. some-zero _ regs (with_reg-zero s.regs rd _ is) same)
effect-takes (HiLo Mfhi number) s is =
    on_registers-effect (HiLo Mfhi number) s _ refl refl (λ regs same. some-zero _ regs (with_reg-zero s.regs number _ is) same)
effect-takes (HiLo Mthi number) s is = record { zero = is; goes = refl; touches = refl; low = tt }
effect-takes (HiLo Mflo number) s is =
    on_registers-effect (HiLo Mflo number) s _ refl refl (λ regs same. some-zero _ regs (with_reg-zero s.regs number _ is) same)
effect-takes (HiLo Mtlo number) s is = record { zero = is; goes = refl; touches = refl; low = tt }
effect-takes (MulDiv op rs rt) s is =
    record { zero = multiplied-zero op (reg s.regs rs) (reg s.regs rt) s.regs is; goes = refl; touches = refl; low = tt }
effect-takes (Imm op rt rs imm) s is =
    on_registers-effect (Imm op rt rs imm) s _ refl refl (λ regs same. result-zero s.regs rt (imm_value op (reg s.regs rs) imm) regs is same)
effect-takes (Lui rt imm) s is =
    on_registers-effect (Lui rt imm) s _ refl refl (λ regs same. some-zero _ regs (with_reg-zero s.regs rt _ is) same)
effect-takes (Load op rt base offset) s is =
    let address = address_of s.regs base offset in
    aligned_or-effect (Load op rt base offset) _ _ (load_in-effect s op rt base offset address (region_of (load_touched op address) s.regions) is (address_of-low s base offset))
effect-takes (Store op rt base offset) s is =
    let address = address_of s.regs base offset in
    aligned_or-effect (Store op rt base offset) _ _ (store_in-effect s op rt base offset address (region_of (store_touched op address) s.regions) is (address_of-low s base offset))
effect-takes (Branch op rs rt offset) s is = record { zero = is; goes = refl; touches = refl; low = tt }
effect-takes (Jump link index) s is = record { zero = is; goes = refl; touches = refl; low = tt }
effect-takes (JumpReg rs) s is = record { zero = is; goes = refl; touches = refl; low = tt }
effect-takes (JumpLink rd rs) s is = record { zero = is; goes = refl; touches = refl; low = tt }
effect-takes (Stop Syscall code) s is = tt
effect-takes (Stop Break code) s is = tt
