-- The instructions but loads, stores and stops work on registers alone.
use Rattle.std.proofs.Common.{◌≡◌, ℕ, refl}
use Rattle.mips_decode.specs.declared.instr.LoadOp.{LoadOp}
use Rattle.mips_decode.specs.declared.instr.StoreOp.{StoreOp}
use Rattle.mips_decode.specs.declared.instr.StopOp.{StopOp}
use Rattle.mips_decode.specs.declared.instr.Instr.{Instr}
use Rattle.mips_decode.specs.declared.instr.Instr.TheVariants.{Three, Shift, HiLo, MulDiv, Imm, Lui, Load, Store, Branch, Jump, JumpReg, JumpLink, Stop}
use Rattle.mips_decode.specs.State.{State}
use Rattle.mips_decode.specs.Effect.{arithmetic, effect, on_registers}

pub effect-registers : (instr : Instr) (s : State) →
    ((op : LoadOp) (rt base offset : ℕ) → instr ≡ Load op rt base offset → ⊥) →
    ((op : StoreOp) (rt base offset : ℕ) → instr ≡ Store op rt base offset → ⊥) →
    ((op : StopOp) (code : ℕ) → instr ≡ Stop op code → ⊥) →
    effect instr s ≡ on_registers s (arithmetic instr s.regs)
effect-registers (Three op rd rs rt) s no_load no_store no_stop = refl
effect-registers (Shift op rd rt by) s no_load no_store no_stop = refl
effect-registers (HiLo op reg) s no_load no_store no_stop = refl
effect-registers (MulDiv op rs rt) s no_load no_store no_stop = refl
effect-registers (Imm op rt rs imm) s no_load no_store no_stop = refl
effect-registers (Lui rt imm) s no_load no_store no_stop = refl
effect-registers (Load op rt base offset) s no_load no_store no_stop = absurd (no_load op rt base offset refl)
effect-registers (Store op rt base offset) s no_load no_store no_stop = absurd (no_store op rt base offset refl)
effect-registers (Branch op rs rt offset) s no_load no_store no_stop = refl
effect-registers (Jump link index) s no_load no_store no_stop = refl
effect-registers (JumpReg rs) s no_load no_store no_stop = refl
effect-registers (JumpLink rd rs) s no_load no_store no_stop = refl
effect-registers (Stop op code) s no_load no_store no_stop = absurd (no_stop op code refl)
