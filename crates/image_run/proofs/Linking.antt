-- Whether a unit calls or returns, as it is known beforehand.
use Rattle.std.proofs.Common.{◌≡◌, ℕ, ◌+◌, ◌==◌, Bool, true, false, refl, ap, sym}
use Rattle.std.specs.Prelude.{if◌then◌else◌, int_le, int_lt, pos}
use Rattle.mips_decode.specs.Arithmetic.{signed}
use Rattle.mips_decode.specs.Effect.{reg}
use Rattle.mips_decode.specs.State.{State}
use Rattle.mips_decode.specs.Transfer.{Calls, call_of, linking_of}
use Rattle.mips_decode.specs.declared.instr.BranchOp.TheVariants.{Beq, Bne, Blez, Bgtz, Bltz, Bgez, Bltzal, Bgezal}
use Rattle.mips_decode.specs.declared.instr.Instr.{Instr}
use Rattle.mips_decode.specs.declared.instr.Instr.TheVariants.{Three, Shift, HiLo, MulDiv, Imm, Lui, Load, Store, Branch, Jump, JumpReg, JumpLink, Stop}
use Rattle.mips_decode.specs.Transfer.{link_of}
use Rattle.image_run.specs.Links.{IsLinkOf, call_if, kind_by, link_in, return_link}

call-if : (b : Bool) (pc target behind next : ℕ) → (if b then target else behind) ≡ next →
    linking_of (call_if b) pc next ≡ call_of b pc target
call-if true pc target behind next leads = ap (λ (n : ℕ). Calls (record { site = pc; target = n })) (sym leads)
call-if false pc target behind next leads = refl

return-by : (b : Bool) (pc next : ℕ) (s : State) (number : ℕ) → (number == 31) ≡ b →
    linking_of (kind_by (return_link number) s.regs) pc next ≡ link_of number
return-by true pc next s number is = rw is refl
return-by false pc next s number is = rw is refl

pub link-law : (instr : Instr) (s : State) → IsLinkOf instr s (kind_by (link_in instr) s.regs)
link-law (Three op rd rs rt) s next leads = refl
link-law (Shift op rd rt by) s next leads = refl
link-law (HiLo op number) s next leads = refl
link-law (MulDiv op rs rt) s next leads = refl
link-law (Imm op rt rs imm) s next leads = refl
link-law (Lui rt imm) s next leads = refl
link-law (Load op rt base offset) s next leads = refl
link-law (Store op rt base offset) s next leads = refl
link-law (Stop op code) s next leads = refl
link-law (Branch Beq rs rt offset) s next leads = refl
link-law (Branch Bne rs rt offset) s next leads = refl
link-law (Branch Blez rs rt offset) s next leads = refl
link-law (Branch Bgtz rs rt offset) s next leads = refl
link-law (Branch Bltz rs rt offset) s next leads = refl
link-law (Branch Bgez rs rt offset) s next leads = refl
link-law (Branch Bltzal rs rt offset) s next leads =
    call-if (int_lt (signed (reg s.regs rs)) (pos 0)) s.pc _ _ next leads
link-law (Branch Bgezal rs rt offset) s next leads =
    call-if (int_le (pos 0) (signed (reg s.regs rs))) s.pc _ _ next leads
link-law (Jump true index) s next leads = call-if true s.pc _ (s.pc + 8) next leads
link-law (Jump false index) s next leads = refl
link-law (JumpReg rs) s next leads = return-by (rs == 31) s.pc next s rs refl
link-law (JumpLink rd rs) s next leads = call-if true s.pc _ (s.pc + 8) next leads
