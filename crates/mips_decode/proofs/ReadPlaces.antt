-- What an instruction does depends only on the places that the table says it reads.
use Rattle.std.proofs.Common.{arith, ◌+◌, ◌*◌, ◌^◌, ◌≡◌, ℕ, ◌<◌, ◌%◌, ◌==◌, ◌&&◌, Bool, true, false, cond, if◌then◌else◌, List, refl, ap, ◌∙◌, sym, subst}
use Rattle.std.specs.Prelude.{Option, Some, None, option_map}
use Rattle.mips_decode.specs.declared.instr.BranchOp.TheVariants.{Beq, Bne, Blez, Bgtz, Bltz, Bgez, Bltzal, Bgezal}
use Rattle.mips_decode.specs.declared.instr.BranchOp.{BranchOp}
use Rattle.mips_decode.specs.declared.instr.HiLoOp.TheVariants.{Mfhi, Mthi, Mflo, Mtlo}
use Rattle.mips_decode.specs.declared.instr.Instr.TheVariants.{Three, Shift, HiLo, MulDiv, Imm, Lui, Load, Store, Branch, Jump, JumpReg, JumpLink, Stop}
use Rattle.mips_decode.specs.declared.instr.Instr.{Instr}
use Rattle.mips_decode.specs.declared.instr.LoadOp.TheVariants.{Lb, Lh, Lwl, Lw, Lbu, Lhu, Lwr}
use Rattle.mips_decode.specs.declared.instr.LoadOp.{LoadOp}
use Rattle.mips_decode.specs.declared.instr.MulOp.TheVariants.{Mult, Multu, Div, Divu}
use Rattle.mips_decode.specs.declared.instr.MulOp.{MulOp}
use Rattle.mips_decode.specs.declared.instr.StopOp.TheVariants.{Syscall, Break}
use Rattle.mips_decode.specs.declared.instr.StoreOp.{StoreOp}
use Rattle.mips_decode.specs.declared.step.Regs.{Regs}
use Rattle.mips_decode.specs.declared.step.Touched.{Touched}
use Rattle.mips_decode.specs.declared.step.TrapKind.TheVariants.{Misaligned, ReadOnly}
use Rattle.mips_decode.specs.Arithmetic.{imm_value, shift_value, sign_extended, three_value}
use Rattle.mips_decode.specs.Columns.{hi, lo, bits_of, branch_reads, load_reads, places_read}
use Rattle.mips_decode.specs.Effect.{Effect, Does, Traps, address_of, aligned_or, effect, load_in, multiplied, number_in, on_registers, reg, region_of, regions_with, loaded, stored, store_in, with_hi_lo, with_reg}
use Rattle.mips_decode.specs.Memory.{load_touched, load_value, store_touched, store_value}
use Rattle.mips_decode.specs.Places.{Agree, ChangeAlike, EffectsAlike, Has, ReadsOnly, WaysAlike}
use Rattle.mips_decode.specs.State.{Region, State, is_writable}
use Rattle.mips_decode.specs.Table.{IsValid}
use Rattle.mips_decode.specs.Transfer.{branch_links, branch_target, call_of, decided, is_taken, link_address, linked}
use Rattle.mips_decode.proofs.Placed.{alike-all, alike-hi, alike-hi_lo, alike-lo, alike-reg, has-first, has-one, has-second, held-register}

-- Registers that agree on a place that is a register have the same number in it.
agree-reg : (places : ℕ) (one other : Regs) → Agree places one other → (number : ℕ) → number < 32 → Has places number →
    reg one number ≡ reg other number
agree-reg places one other agree number low has =
    sym (held-register one number low) ∙ agree.same number has ∙ held-register other number low

-- The same result is put into a register, if there is one.
put-alike : (places : ℕ) (s : State) (other : Regs) → Agree places s.regs other → (number : ℕ) → number < 32 →
    (o p : Option ℕ) → o ≡ p →
    EffectsAlike s.regs other (on_registers s (option_map (with_reg s.regs number) o))
    (on_registers (record s { regs = other }) (option_map (with_reg other number) p))
put-alike places s other agree number low o p e =
    let now : State = record s { regs = other } in
    let Goal : Option ℕ → Option ℕ → Type 0 = λ q r.
    EffectsAlike s.regs other (on_registers s (option_map (with_reg s.regs number) q))
    (on_registers now (option_map (with_reg other number) r)) in
    let both : (q : Option ℕ) → Goal q q = λ q. elim q as (λ r. Goal r r) [
      | None ↦ refl
      | Some value ↦ (refl, refl, refl, alike-reg s.regs other number value low agree.count agree.other_count)
    ] in
    subst (λ r. Goal o r) e (both o)

divided-alike : (one other : Regs) (t upper lower : ℕ) →
    ChangeAlike one other (if t == 0 then with_hi_lo one 0 0 else with_hi_lo one upper lower)
    (if t == 0 then with_hi_lo other 0 0 else with_hi_lo other upper lower)
divided-alike one other t upper lower =
    elim (t == 0) as (λ b. ChangeAlike one other (cond b (with_hi_lo one 0 0) (with_hi_lo one upper lower))
    (cond b (with_hi_lo other 0 0) (with_hi_lo other upper lower))) [
      | true ↦ alike-hi_lo one other 0 0
      | false ↦ alike-hi_lo one other upper lower
    ]

multiplied-alike : (op : MulOp) (s t : ℕ) (one other : Regs) →
    ChangeAlike one other (multiplied op s t one) (multiplied op s t other)
multiplied-alike Mult s t one other = alike-hi_lo one other _ _
multiplied-alike Multu s t one other = alike-hi_lo one other _ _
multiplied-alike Div s t one other = divided-alike one other t _ _
multiplied-alike Divu s t one other = divided-alike one other t _ _

aligned-alike : (one other : Regs) (access : Touched) (done other_done : Effect) → EffectsAlike one other done other_done →
    EffectsAlike one other (aligned_or access done) (aligned_or access other_done)
aligned-alike one other access done other_done alike =
    elim (access.address % access.size == 0) as (λ b. EffectsAlike one other (cond b done (Traps Misaligned))
    (cond b other_done (Traps Misaligned))) [ true ↦ alike | false ↦ refl ]

-- A load reads its base register, and LWL and LWR the register that they load into.
load-base : (op : LoadOp) (rt base : ℕ) → Has (bits_of (load_reads op rt base)) base
load-base Lb rt base = has-one base
load-base Lh rt base = has-one base
load-base Lwl rt base = has-first base rt
load-base Lw rt base = has-one base
load-base Lbu rt base = has-one base
load-base Lhu rt base = has-one base
load-base Lwr rt base = has-first base rt

load-old : (op : LoadOp) (rt base : ℕ) (one other : Regs) → rt < 32 → Agree (bits_of (load_reads op rt base)) one other →
    (place number : ℕ) → load_value op place (reg one rt) number ≡ load_value op place (reg other rt) number
load-old Lb rt base one other low agree place number = refl
load-old Lh rt base one other low agree place number = refl
load-old Lwl rt base one other low agree place number =
    ap (λ old. load_value Lwl place old number) (agree-reg _ one other agree rt low (has-second base rt))
load-old Lw rt base one other low agree place number = refl
load-old Lbu rt base one other low agree place number = refl
load-old Lhu rt base one other low agree place number = refl
load-old Lwr rt base one other low agree place number =
    ap (λ old. load_value Lwr place old number) (agree-reg _ one other agree rt low (has-second base rt))

load-alike : (op : LoadOp) (rt base address : ℕ) (s : State) (other : Regs) → rt < 32 →
    Agree (bits_of (load_reads op rt base)) s.regs other → (o : Option Region) →
    EffectsAlike s.regs other (load_in s op rt address o) (load_in (record s { regs = other }) op rt address o)
load-alike op rt base address s other low agree None = refl
load-alike op rt base address s other low agree (Some region) =
    let number : ℕ = number_in (load_touched op address) region in
    let value : ℕ = load_value op (address % 4) (reg s.regs rt) number in (
      refl,
      refl,
      refl,
      subst (λ v. ChangeAlike s.regs other (with_reg s.regs rt value) (with_reg other rt v))
          (load-old op rt base s.regs other low agree (address % 4) number)
          (alike-reg s.regs other rt value low agree.count agree.other_count),
    )

store-alike : (op : StoreOp) (rt address : ℕ) (s : State) (other : Regs) → reg s.regs rt ≡ reg other rt → (o : Option Region) →
    EffectsAlike s.regs other (store_in s op rt address o) (store_in (record s { regs = other }) op rt address o)
store-alike op rt address s other same None = refl
store-alike op rt address s other same (Some region) =
    let access : Touched = store_touched op address in
    let after : ℕ → List Region = λ n.
    regions_with access (store_value op (address % 4) (number_in access region) n) s.regions in
    elim (is_writable region) as (λ b. EffectsAlike s.regs other
    (cond b (Does (Some access) (record s { regions = after (reg s.regs rt) })) (Traps ReadOnly))
    (cond b (Does (Some access) (record s { regs = other; regions = after (reg other rt) })) (Traps ReadOnly))) [
      | true ↦ (refl, refl, ap after same, alike-all s.regs other)
      | false ↦ refl
    ]

effects-alike : (instr : Instr) → IsValid instr → (s : State) (other : Regs) → Agree (bits_of (places_read instr)) s.regs other →
    EffectsAlike s.regs other (effect instr s) (effect instr (record s { regs = other }))
effects-alike (Three op rd rs rt) valid s other agree =
    put-alike _ s other agree rd valid.0 _ _
    (ap (λ n. three_value op n (reg s.regs rt)) (agree-reg _ s.regs other agree rs valid.1 (has-first rs rt))
    ∙ ap (three_value op (reg other rs)) (agree-reg _ s.regs other agree rt valid.2 (has-second rs rt)))
effects-alike (Shift op rd rt by) valid s other agree =
    put-alike _ s other agree rd valid.0 _ _
    (ap (λ n. Some (shift_value op n by)) (agree-reg _ s.regs other agree rt valid.1 (has-one rt)))
effects-alike (HiLo Mfhi number) valid s other agree =
    put-alike _ s other agree number valid _ _ (ap (λ n. Some n) (agree.same hi (has-one hi)))
effects-alike (HiLo Mthi number) valid s other agree = (
  refl,
  refl,
  refl,
  subst (λ n. ChangeAlike s.regs other (record s.regs { hi = reg s.regs number }) (record other { hi = n }))
      (agree-reg _ s.regs other agree number valid (has-one number)) (alike-hi s.regs other (reg s.regs number)),
)
effects-alike (HiLo Mflo number) valid s other agree =
    put-alike _ s other agree number valid _ _ (ap (λ n. Some n) (agree.same lo (has-one lo)))
effects-alike (HiLo Mtlo number) valid s other agree = (
  refl,
  refl,
  refl,
  subst (λ n. ChangeAlike s.regs other (record s.regs { lo = reg s.regs number }) (record other { lo = n }))
      (agree-reg _ s.regs other agree number valid (has-one number)) (alike-lo s.regs other (reg s.regs number)),
)
effects-alike (MulDiv op rs rt) valid s other agree =
    let after : ℕ → ℕ → Type 0 = λ m n.
    ChangeAlike s.regs other (multiplied op (reg s.regs rs) (reg s.regs rt) s.regs) (multiplied op m n other) in (
      refl,
      refl,
      refl,
      subst (λ n. after (reg other rs) n) (agree-reg _ s.regs other agree rt valid.1 (has-second rs rt))
          (subst (λ m. after m (reg s.regs rt)) (agree-reg _ s.regs other agree rs valid.0 (has-first rs rt))
          (multiplied-alike op (reg s.regs rs) (reg s.regs rt) s.regs other)),
    )
effects-alike (Imm op rt rs imm) valid s other agree =
    put-alike _ s other agree rt valid.0 _ _
    (ap (λ n. imm_value op n imm) (agree-reg _ s.regs other agree rs valid.1 (has-one rs)))
effects-alike (Lui rt imm) valid s other agree = put-alike _ s other agree rt valid.0 (Some (imm * 2 ^ 16)) _ refl
effects-alike (Load op rt base offset) valid s other agree =
    let now : State = record s { regs = other } in
    let address : ℕ = address_of s.regs base offset in
    let same : address ≡ address_of other base offset =
    ap (λ n. (n + sign_extended offset) % 2 ^ 32) (agree-reg _ s.regs other agree base valid.1 (load-base op rt base)) in
    subst (λ a. EffectsAlike s.regs other (loaded s op rt address) (loaded now op rt a)) same
    (aligned-alike s.regs other (load_touched op address) _ _
    (load-alike op rt base address s other valid.0 agree (region_of (load_touched op address) s.regions)))
effects-alike (Store op rt base offset) valid s other agree =
    let now : State = record s { regs = other } in
    let address : ℕ = address_of s.regs base offset in
    let same : address ≡ address_of other base offset =
    ap (λ n. (n + sign_extended offset) % 2 ^ 32) (agree-reg _ s.regs other agree base valid.1 (has-first base rt)) in
    subst (λ a. EffectsAlike s.regs other (stored s op rt address) (stored now op rt a)) same
    (aligned-alike s.regs other (store_touched op address) _ _
    (store-alike op rt address s other (agree-reg _ s.regs other agree rt valid.0 (has-second base rt))
    (region_of (store_touched op address) s.regions)))
effects-alike (Branch op rs rt offset) valid s other agree = (refl, refl, refl, alike-all s.regs other)
effects-alike (Jump link index) valid s other agree = (refl, refl, refl, alike-all s.regs other)
effects-alike (JumpReg rs) valid s other agree = (refl, refl, refl, alike-all s.regs other)
effects-alike (JumpLink rd rs) valid s other agree = (refl, refl, refl, alike-all s.regs other)
effects-alike (Stop Syscall code) valid s other agree = refl
effects-alike (Stop Break code) valid s other agree = refl

-- A branch is taken by the numbers in the registers that it reads.
taken-same : (op : BranchOp) (rs rt : ℕ) (one other : Regs) → rs < 32 → rt < 32 → Agree (bits_of (branch_reads op rs rt)) one other →
    is_taken op (reg one rs) (reg one rt) ≡ is_taken op (reg other rs) (reg other rt)
taken-same Beq rs rt one other low low_second agree =
    ap (λ n. is_taken Beq n (reg one rt)) (agree-reg _ one other agree rs low (has-first rs rt))
    ∙ ap (is_taken Beq (reg other rs)) (agree-reg _ one other agree rt low_second (has-second rs rt))
taken-same Bne rs rt one other low low_second agree =
    ap (λ n. is_taken Bne n (reg one rt)) (agree-reg _ one other agree rs low (has-first rs rt))
    ∙ ap (is_taken Bne (reg other rs)) (agree-reg _ one other agree rt low_second (has-second rs rt))
taken-same Blez rs rt one other low low_second agree =
    ap (λ n. is_taken Blez n (reg one rt)) (agree-reg _ one other agree rs low (has-one rs))
taken-same Bgtz rs rt one other low low_second agree =
    ap (λ n. is_taken Bgtz n (reg one rt)) (agree-reg _ one other agree rs low (has-one rs))
taken-same Bltz rs rt one other low low_second agree =
    ap (λ n. is_taken Bltz n (reg one rt)) (agree-reg _ one other agree rs low (has-one rs))
taken-same Bgez rs rt one other low low_second agree =
    ap (λ n. is_taken Bgez n (reg one rt)) (agree-reg _ one other agree rs low (has-one rs))
taken-same Bltzal rs rt one other low low_second agree =
    ap (λ n. is_taken Bltzal n (reg one rt)) (agree-reg _ one other agree rs low (has-one rs))
taken-same Bgezal rs rt one other low low_second agree =
    ap (λ n. is_taken Bgezal n (reg one rt)) (agree-reg _ one other agree rs low (has-one rs))

linked-alike : (links : Bool) (pc places : ℕ) (one other : Regs) → Agree places one other →
    ChangeAlike one other (linked links pc one) (linked links pc other)
linked-alike true pc places one other agree =
    alike-reg one other 31 (link_address pc) (omega arith) agree.count agree.other_count
linked-alike false pc places one other agree = alike-all one other

ways-alike : (instr : Instr) → IsValid instr → (pc : ℕ) (one other : Regs) → Agree (bits_of (places_read instr)) one other →
    WaysAlike one other (decided instr pc one) (decided instr pc other)
ways-alike (Three op rd rs rt) valid pc one other agree = tt
ways-alike (Shift op rd rt by) valid pc one other agree = tt
ways-alike (HiLo op number) valid pc one other agree = tt
ways-alike (MulDiv op rs rt) valid pc one other agree = tt
ways-alike (Imm op rt rs imm) valid pc one other agree = tt
ways-alike (Lui rt imm) valid pc one other agree = tt
ways-alike (Load op rt base offset) valid pc one other agree = tt
ways-alike (Store op rt base offset) valid pc one other agree = tt
ways-alike (Branch op rs rt offset) valid pc one other agree =
    let target : ℕ = branch_target pc offset in
    let same : is_taken op (reg one rs) (reg one rt) ≡ is_taken op (reg other rs) (reg other rt) =
    taken-same op rs rt one other valid.0 valid.1 agree in (
      ap (λ b. cond b target (pc + 8)) same,
      ap (λ b. call_of (branch_links op && b) pc target) same,
      linked-alike (branch_links op) pc _ one other agree,
    )
ways-alike (Jump links index) valid pc one other agree = (refl, refl, linked-alike links pc _ one other agree)
ways-alike (JumpReg rs) valid pc one other agree =
    (agree-reg _ one other agree rs valid (has-one rs), refl, alike-all one other)
ways-alike (JumpLink rd rs) valid pc one other agree =
    let same : reg one rs ≡ reg other rs = agree-reg _ one other agree rs valid.1 (has-one rs) in (
      same,
      ap (λ target. call_of true pc target) same,
      alike-reg one other rd (link_address pc) valid.0 agree.count agree.other_count,
    )
ways-alike (Stop op code) valid pc one other agree = tt

pub reads-only : (instr : Instr) → IsValid instr → ReadsOnly (bits_of (places_read instr)) instr
reads-only instr valid = record { results = effects-alike instr valid; ways = ways-alike instr valid }
