-- No instruction changes the executable words.
use Rattle.std.proofs.Common.{subst, ◌≡◌, ℕ, ◌-◌, ◌%◌, ◌==◌, ◌&&◌, not, Bool, true, false, cond, List, [], ◌∷◌, refl, ap, ◌∙◌, sym}
use Rattle.std.specs.Prelude.{Option, Some, None, IfSome, find, option_map}
use Rattle.mips_decode.specs.declared.instr.LoadOp.{LoadOp}
use Rattle.mips_decode.specs.declared.instr.StoreOp.{StoreOp}
use Rattle.mips_decode.specs.declared.instr.StopOp.TheVariants.{Syscall, Break}
use Rattle.mips_decode.specs.declared.instr.Instr.{Instr}
use Rattle.mips_decode.specs.declared.instr.Instr.TheVariants.{Three, Shift, HiLo, MulDiv, Imm, Lui, Load, Store, Branch, Jump, JumpReg, JumpLink, Stop}
use Rattle.mips_decode.specs.declared.step.Regs.{Regs}
use Rattle.mips_decode.specs.declared.step.Touched.{Touched}
use Rattle.mips_decode.specs.declared.step.TrapKind.TheVariants.{Misaligned, ReadOnly}
use Rattle.mips_decode.specs.State.{Region, State, covers, is_executable, is_writable, holds_code, code_at, word_at}
use Rattle.mips_decode.specs.Memory.{load_touched, store_touched, store_value}
use Rattle.mips_decode.specs.Effect.{Effect, Does, Traps, reg, arithmetic, on_registers, address_of, region_of, number_in, region_with, regions_with, aligned_or, load_in, store_in, effect}

-- An effect leaves the executable words as they were.
abbrev pub KeepsCode : State → Effect → Type 0
KeepsCode s (Does access t) = (address : ℕ) → code_at t.regions address ≡ code_at s.regions address
KeepsCode s (Traps kind) = Unit {0}

and-false : (b : Bool) → (b && false) ≡ false
and-false true = refl
and-false false = refl

-- A writable region holds no executable word.
holds_code-writable : (address : ℕ) (region : Region) → is_writable region ≡ true → holds_code address region ≡ false
holds_code-writable address region e =
    ap (λ w. covers address 4 region && is_executable region && not w) e
    ∙ and-false (covers address 4 region && is_executable region)

-- The region that holds an access can be written, if there is one.
abbrev IsWritableAt : Touched → List Region → Type 0
IsWritableAt access regions = IfSome (region_of access regions) (λ region. is_writable region ≡ true)

-- A number put into a writable region leaves the region that a code address is found in.
find-regions_with : (access : Touched) (number address : ℕ) (regions : List Region) → IsWritableAt access regions →
    find (holds_code address) (regions_with access number regions) ≡ find (holds_code address) regions
find-regions_with access number address [] w = refl
find-regions_with access number address (region ∷ more) w =
    elim (covers access.address access.size region) as (λ b.
    IfSome (cond b (Some region) (region_of access more)) (λ r. is_writable r ≡ true) →
    find (holds_code address) (cond b (region_with access number region ∷ more) (region ∷ regions_with access number more))
    ≡ find (holds_code address) (region ∷ more)) [
      | true ↦ λ h.
          ap (λ b. cond b (Some (region_with access number region)) (find (holds_code address) more))
          (holds_code-writable address (region_with access number region) h)
          ∙ sym (ap (λ b. cond b (Some region) (find (holds_code address) more)) (holds_code-writable address region h))
      | false ↦ λ h.
          ap (cond (holds_code address region) (Some region)) (find-regions_with access number address more h)
    ] w

code_at-regions_with : (access : Touched) (number address : ℕ) (regions : List Region) → IsWritableAt access regions →
    code_at (regions_with access number regions) address ≡ code_at regions address
code_at-regions_with access number address regions w =
    ap (λ found. cond (address % 4 == 0) (option_map (λ (region : Region). word_at (address - region.start) region.bytes) found) None)
    (find-regions_with access number address regions w)

on_registers-keeps : (s : State) (o : Option Regs) → KeepsCode s (on_registers s o)
on_registers-keeps s None = tt
on_registers-keeps s (Some regs) = λ address. refl

aligned_or-keeps : (s : State) (access : Touched) (done : Effect) → KeepsCode s done → KeepsCode s (aligned_or access done)
aligned_or-keeps s access done k =
    elim (access.address % access.size == 0) as (λ b. KeepsCode s (cond b done (Traps Misaligned))) [ true ↦ k | false ↦ tt ]

load_in-keeps : (s : State) (op : LoadOp) (rt address : ℕ) (o : Option Region) → KeepsCode s (load_in s op rt address o)
load_in-keeps s op rt address None = tt
load_in-keeps s op rt address (Some region) = λ at. refl

store_in-keeps : (s : State) (op : StoreOp) (rt address : ℕ) (o : Option Region) →
    region_of (store_touched op address) s.regions ≡ o → KeepsCode s (store_in s op rt address o)
store_in-keeps s op rt address None e = tt
store_in-keeps s op rt address (Some region) e =
    let access = store_touched op address in
    let number = store_value op (address % 4) (number_in access region) (reg s.regs rt) in
    elim (is_writable region) as (λ b. is_writable region ≡ b →
    KeepsCode s (cond b (Does (Some access) (record s { regions = regions_with access number s.regions })) (Traps ReadOnly))) [
      | true ↦ λ w at. code_at-regions_with access number at s.regions
          (subst (λ o. IfSome o (λ r. is_writable r ≡ true)) (sym e) w)
      | false ↦ λ w. tt
    ] refl

-- No instruction changes the executable words: a store writes only into a writable region.
pub effect-keeps : (instr : Instr) (s : State) → KeepsCode s (effect instr s)
effect-keeps (Three op rd rs rt) s = on_registers-keeps s (arithmetic (Three op rd rs rt) s.regs)
effect-keeps (Shift op rd rt by) s = on_registers-keeps s (arithmetic (Shift op rd rt by) s.regs)
effect-keeps (HiLo op number) s = on_registers-keeps s (arithmetic (HiLo op number) s.regs)
effect-keeps (MulDiv op rs rt) s = on_registers-keeps s (arithmetic (MulDiv op rs rt) s.regs)
effect-keeps (Imm op rt rs imm) s = on_registers-keeps s (arithmetic (Imm op rt rs imm) s.regs)
effect-keeps (Lui rt imm) s = on_registers-keeps s (arithmetic (Lui rt imm) s.regs)
effect-keeps (Load op rt base offset) s =
    let address = address_of s.regs base offset in
    aligned_or-keeps s (load_touched op address) _ (load_in-keeps s op rt address (region_of (load_touched op address) s.regions))
effect-keeps (Store op rt base offset) s =
    let address = address_of s.regs base offset in
    aligned_or-keeps s (store_touched op address) _ (store_in-keeps s op rt address (region_of (store_touched op address) s.regions) refl)
effect-keeps (Branch op rs rt offset) s = λ address. refl
effect-keeps (Jump link index) s = λ address. refl
effect-keeps (JumpReg rs) s = λ address. refl
effect-keeps (JumpLink rd rs) s = λ address. refl
effect-keeps (Stop Syscall code) s = tt
effect-keeps (Stop Break code) s = tt

-- The same, of an effect that took place.
pub code_at-effect : (instr : Instr) (s t : State) (access : Option Touched) → effect instr s ≡ Does access t →
    (address : ℕ) → code_at t.regions address ≡ code_at s.regions address
code_at-effect instr s t access e = subst (KeepsCode s) e (effect-keeps instr s)
