-- An instruction writes only the places that the table says.
use Rattle.std.proofs.Common.{ℕ, ◌%◌, ◌==◌, Bool, true, false, cond, if◌then◌else◌, [], ◌∷◌}
use Rattle.std.specs.Prelude.{Option, Some, None, IfSome, option_map}
use Rattle.mips_decode.specs.declared.instr.BranchOp.TheVariants.{Beq, Bne, Blez, Bgtz, Bltz, Bgez, Bltzal, Bgezal}
use Rattle.mips_decode.specs.declared.instr.BranchOp.{BranchOp}
use Rattle.mips_decode.specs.declared.instr.HiLoOp.TheVariants.{Mfhi, Mthi, Mflo, Mtlo}
use Rattle.mips_decode.specs.declared.instr.Instr.TheVariants.{Three, Shift, HiLo, MulDiv, Imm, Lui, Load, Store, Branch, Jump, JumpReg, JumpLink, Stop}
use Rattle.mips_decode.specs.declared.instr.Instr.{Instr}
use Rattle.mips_decode.specs.declared.instr.LoadOp.{LoadOp}
use Rattle.mips_decode.specs.declared.instr.MulOp.TheVariants.{Mult, Multu, Div, Divu}
use Rattle.mips_decode.specs.declared.instr.MulOp.{MulOp}
use Rattle.mips_decode.specs.declared.instr.StopOp.TheVariants.{Syscall, Break}
use Rattle.mips_decode.specs.declared.instr.StoreOp.{StoreOp}
use Rattle.mips_decode.specs.declared.step.Regs.{Regs}
use Rattle.mips_decode.specs.declared.step.Touched.{Touched}
use Rattle.mips_decode.specs.declared.step.TrapKind.TheVariants.{Misaligned, ReadOnly}
use Rattle.mips_decode.specs.Arithmetic.{imm_value, three_value}
use Rattle.mips_decode.specs.Columns.{hi, lo, bits_of, places_written, register}
use Rattle.mips_decode.specs.Effect.{Effect, Does, Traps, address_of, aligned_or, effect, load_in, multiplied, number_in, on_registers, reg, region_of, regions_with, store_in, with_hi_lo, with_reg}
use Rattle.mips_decode.specs.Memory.{load_touched, store_touched, store_value}
use Rattle.mips_decode.specs.Places.{EffectKeepsOthers, KeepsOthers, WritesOnly}
use Rattle.mips_decode.specs.State.{Region, State, is_writable}
use Rattle.mips_decode.specs.Transfer.{Decided, decided, link_address, linked}
use Rattle.mips_decode.proofs.Placed.{keeps-all, keeps-reg, keeps-hi, keeps-lo, keeps-hi_lo}

-- A result is put into its register, if there is one.
put-keeps : (s : State) (number : ℕ) (o : Option ℕ) →
    EffectKeepsOthers (bits_of (register number)) s.regs (on_registers s (option_map (with_reg s.regs number) o))
put-keeps s number None = tt
put-keeps s number (Some value) = keeps-reg s.regs number value

divided-keeps : (regs : Regs) (t upper lower : ℕ) →
    KeepsOthers (bits_of (hi ∷ lo ∷ [])) regs (if t == 0 then with_hi_lo regs 0 0 else with_hi_lo regs upper lower)
divided-keeps regs t upper lower =
    elim (t == 0) as (λ b. KeepsOthers (bits_of (hi ∷ lo ∷ [])) regs (cond b (with_hi_lo regs 0 0) (with_hi_lo regs upper lower))) [
      | true ↦ keeps-hi_lo regs 0 0
      | false ↦ keeps-hi_lo regs upper lower
    ]

multiplied-keeps : (op : MulOp) (s t : ℕ) (regs : Regs) → KeepsOthers (bits_of (hi ∷ lo ∷ [])) regs (multiplied op s t regs)
multiplied-keeps Mult s t regs = keeps-hi_lo regs _ _
multiplied-keeps Multu s t regs = keeps-hi_lo regs _ _
multiplied-keeps Div s t regs = divided-keeps regs t _ _
multiplied-keeps Divu s t regs = divided-keeps regs t _ _

aligned-keeps : (places : ℕ) (regs : Regs) (access : Touched) (done : Effect) → EffectKeepsOthers places regs done →
    EffectKeepsOthers places regs (aligned_or access done)
aligned-keeps places regs access done keeps =
    elim (access.address % access.size == 0) as (λ b. EffectKeepsOthers places regs (cond b done (Traps Misaligned)))
    [ true ↦ keeps | false ↦ tt ]

load-keeps : (s : State) (op : LoadOp) (rt address : ℕ) (o : Option Region) →
    EffectKeepsOthers (bits_of (register rt)) s.regs (load_in s op rt address o)
load-keeps s op rt address None = tt
load-keeps s op rt address (Some region) = keeps-reg s.regs rt _

store-keeps : (s : State) (op : StoreOp) (rt address : ℕ) (o : Option Region) →
    EffectKeepsOthers (bits_of []) s.regs (store_in s op rt address o)
store-keeps s op rt address None = tt
store-keeps s op rt address (Some region) =
    let access : Touched = store_touched op address in
    let number : ℕ = store_value op (address % 4) (number_in access region) (reg s.regs rt) in
    elim (is_writable region) as (λ b. EffectKeepsOthers (bits_of []) s.regs
    (cond b (Does (Some access) (record s { regions = regions_with access number s.regions })) (Traps ReadOnly)))
    [ true ↦ keeps-all 0 s.regs | false ↦ tt ]

effect-keeps : (instr : Instr) (s : State) → EffectKeepsOthers (bits_of (places_written instr)) s.regs (effect instr s)
effect-keeps (Three op rd rs rt) s = put-keeps s rd (three_value op (reg s.regs rs) (reg s.regs rt))
effect-keeps (Shift op rd rt by) s = keeps-reg s.regs rd _
effect-keeps (HiLo Mfhi number) s = keeps-reg s.regs number _
effect-keeps (HiLo Mthi number) s = keeps-hi s.regs _
effect-keeps (HiLo Mflo number) s = keeps-reg s.regs number _
effect-keeps (HiLo Mtlo number) s = keeps-lo s.regs _
effect-keeps (MulDiv op rs rt) s = multiplied-keeps op (reg s.regs rs) (reg s.regs rt) s.regs
effect-keeps (Imm op rt rs imm) s = put-keeps s rt (imm_value op (reg s.regs rs) imm)
effect-keeps (Lui rt imm) s = keeps-reg s.regs rt _
effect-keeps (Load op rt base offset) s =
    let address = address_of s.regs base offset in
    aligned-keeps _ s.regs (load_touched op address) _
    (load-keeps s op rt address (region_of (load_touched op address) s.regions))
effect-keeps (Store op rt base offset) s =
    let address = address_of s.regs base offset in
    aligned-keeps _ s.regs (store_touched op address) _
    (store-keeps s op rt address (region_of (store_touched op address) s.regions))
effect-keeps (Branch op rs rt offset) s = keeps-all _ s.regs
effect-keeps (Jump link index) s = keeps-all _ s.regs
effect-keeps (JumpReg rs) s = keeps-all _ s.regs
effect-keeps (JumpLink rd rs) s = keeps-all _ s.regs
effect-keeps (Stop Syscall code) s = tt
effect-keeps (Stop Break code) s = tt

branch-keeps : (op : BranchOp) (rs rt offset pc : ℕ) (regs : Regs) →
    IfSome (decided (Branch op rs rt offset) pc regs)
    (λ (way : Decided). KeepsOthers (bits_of (places_written (Branch op rs rt offset))) regs way.regs)
branch-keeps Beq rs rt offset pc regs = keeps-all _ regs
branch-keeps Bne rs rt offset pc regs = keeps-all _ regs
branch-keeps Blez rs rt offset pc regs = keeps-all _ regs
branch-keeps Bgtz rs rt offset pc regs = keeps-all _ regs
branch-keeps Bltz rs rt offset pc regs = keeps-all _ regs
branch-keeps Bgez rs rt offset pc regs = keeps-all _ regs
branch-keeps Bltzal rs rt offset pc regs = keeps-reg regs 31 (link_address pc)
branch-keeps Bgezal rs rt offset pc regs = keeps-reg regs 31 (link_address pc)

jump-keeps : (links : Bool) (index pc : ℕ) (regs : Regs) →
    KeepsOthers (bits_of (places_written (Jump links index))) regs (linked links pc regs)
jump-keeps true index pc regs = keeps-reg regs 31 (link_address pc)
jump-keeps false index pc regs = keeps-all _ regs

decided-keeps : (instr : Instr) (pc : ℕ) (regs : Regs) →
    IfSome (decided instr pc regs) (λ (way : Decided). KeepsOthers (bits_of (places_written instr)) regs way.regs)
decided-keeps (Three op rd rs rt) pc regs = tt
decided-keeps (Shift op rd rt by) pc regs = tt
decided-keeps (HiLo op number) pc regs = tt
decided-keeps (MulDiv op rs rt) pc regs = tt
decided-keeps (Imm op rt rs imm) pc regs = tt
decided-keeps (Lui rt imm) pc regs = tt
decided-keeps (Load op rt base offset) pc regs = tt
decided-keeps (Store op rt base offset) pc regs = tt
decided-keeps (Branch op rs rt offset) pc regs = branch-keeps op rs rt offset pc regs
decided-keeps (Jump links index) pc regs = jump-keeps links index pc regs
decided-keeps (JumpReg rs) pc regs = keeps-all _ regs
decided-keeps (JumpLink rd rs) pc regs = keeps-reg regs rd (link_address pc)
decided-keeps (Stop op code) pc regs = tt

pub writes-only : (instr : Instr) → WritesOnly (bits_of (places_written instr)) instr
writes-only instr = record { results = effect-keeps instr; links = decided-keeps instr }
