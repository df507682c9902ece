-- Whether a unit calls or returns, as far as it is known before it is done.
use Rattle.std.specs.Prelude.{◌≡◌, ℕ, ◌<◌, ◌==◌, Bool, true, false, Option, Some, None, int_le, int_lt, pos, if◌then◌else◌}
use Rattle.mips_decode.specs.Arithmetic.{signed}
use Rattle.mips_decode.specs.Effect.{reg}
use Rattle.mips_decode.specs.State.{State}
use Rattle.mips_decode.specs.Transfer.{Decided, Linking, Straight, decided, linking_of}
use Rattle.mips_decode.specs.declared.instr.BranchOp.{BranchOp}
use Rattle.mips_decode.specs.declared.instr.BranchOp.TheVariants.{Bltzal, Bgezal}
use Rattle.mips_decode.specs.declared.instr.Instr.{Instr}
use Rattle.mips_decode.specs.declared.instr.Instr.TheVariants.{Branch, Jump, JumpReg, JumpLink}
use Rattle.mips_decode.specs.declared.step.Regs.{Regs}
use Rattle.mips_decode.specs.declared.transfer.LinkKind.{LinkKind}
use Rattle.mips_decode.specs.declared.transfer.LinkKind.TheVariants as kind
use Rattle.image_run.specs.declared.link.Link.{Link}
use Rattle.image_run.specs.declared.link.Link.TheVariants as link

-- An instruction that decides nothing neither calls nor returns.
abbrev pub linking_by : Option Decided → Linking
linking_by None = Straight
linking_by (Some way) = way.link

-- What was decided leads to an address.
abbrev pub LeadsTo : Option Decided → (next : ℕ) → Type 0
LeadsTo None next = Unit {0}
LeadsTo (Some way) next = way.next ≡ next

-- The kind of the call or return of an instruction at the program counter, wherever it leads.
abbrev pub IsLinkOf : Instr → State → LinkKind → Type 0
IsLinkOf instr s kind =
    (next : ℕ) → LeadsTo (decided instr s.pc s.regs) next →
    linking_of kind s.pc next ≡ linking_by (decided instr s.pc s.regs)

-- BLTZAL and BGEZAL call where they are taken, and `jr $31` returns.
abbrev pub branch_link : BranchOp → (register : ℕ) → Link
branch_link Bltzal register = link.IfNegative register
branch_link Bgezal register = link.UnlessNegative register
branch_link op register = link.Plain

abbrev pub return_link : (register : ℕ) → Link
return_link register = if register == 31 then link.Return else link.Plain

abbrev pub jump_link : (links : Bool) → Link
jump_link true = link.Call
jump_link false = link.Plain

abbrev pub link_in : Instr → Link
link_in (Branch op rs rt offset) = branch_link op rs
link_in (Jump links index) = jump_link links
link_in (JumpReg rs) = return_link rs
link_in (JumpLink rd rs) = link.Call
link_in instr = link.Plain

-- By the registers before the unit.
abbrev pub call_if : Bool → LinkKind
call_if true = kind.Call
call_if false = kind.Plain

abbrev pub kind_by : Link → Regs → LinkKind
kind_by link.Plain regs = kind.Plain
kind_by link.Call regs = kind.Call
kind_by link.Return regs = kind.Return
kind_by (link.IfNegative register) regs = call_if (int_lt (signed (reg regs register)) (pos 0))
kind_by (link.UnlessNegative register) regs = call_if (int_le (pos 0) (signed (reg regs register)))

-- Its register is one.
abbrev pub IsLow : Link → Type 0
IsLow (link.IfNegative register) = register < 32
IsLow (link.UnlessNegative register) = register < 32
IsLow other = Unit {0}
