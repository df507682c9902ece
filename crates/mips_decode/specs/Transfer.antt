-- What a jump or branch decides before its delay slot takes effect.
use Rattle.std.specs.Prelude.{ℕ, Bool, true, false, not, ◌&&◌, ◌+◌, ◌*◌, ◌/◌, ◌%◌, ◌^◌, ◌==◌, pos, int_lt, int_le, Option, Some, None, if◌then◌else◌}
use Rattle.mips_decode.specs.declared.instr.BranchOp.{BranchOp}
use Rattle.mips_decode.specs.declared.instr.BranchOp.TheVariants.{Beq, Bne, Blez, Bgtz, Bltz, Bgez, Bltzal, Bgezal}
use Rattle.mips_decode.specs.declared.instr.Instr.{Instr}
use Rattle.mips_decode.specs.declared.instr.Instr.TheVariants.{Branch, Jump, JumpReg, JumpLink}
use Rattle.mips_decode.specs.declared.step.Regs.{Regs}
use Rattle.mips_decode.specs.declared.transfer.LinkKind.{LinkKind}
use Rattle.mips_decode.specs.declared.transfer.LinkKind.TheVariants.{Plain, Call as CallKind, Return}
use Rattle.mips_decode.specs.Arithmetic.{signed, sign_extended}
use Rattle.mips_decode.specs.Effect.{reg, with_reg}

-- A call that is open: the address of the calling unit and the function that it calls.
pub record Call : Type 0 where
  pub site : ℕ
  pub target : ℕ

-- A unit calls, returns to its caller (jr $31), or does neither.
pub data Linking : Type 0 where
  Straight : Linking
  Calls : (call : Call) → Linking
  Returns : Linking

-- Where a transfer goes, the registers with its link written, and its call or return.
pub record Decided : Type 0 where
  pub next : ℕ
  pub regs : Regs
  pub link : Linking

-- The link that a call writes: the address behind its delay slot.
abbrev pub link_address : ℕ → ℕ
link_address pc = (pc + 8) % 2 ^ 32

-- A branch's target: the delay slot's address plus four times the signed offset.
abbrev pub branch_target : (pc offset : ℕ) → ℕ
branch_target pc offset = (pc + 4 + sign_extended offset * 4) % 2 ^ 32

-- The target of J and JAL: the top four bits of the delay slot's address, then four times the
-- index.
abbrev pub jump_target : (pc index : ℕ) → ℕ
jump_target pc index = (pc + 4) / 2 ^ 28 * 2 ^ 28 + index * 4

-- A branch compares its two registers, or the first one as a signed number with zero.
abbrev pub is_taken : BranchOp → (s t : ℕ) → Bool
is_taken Beq s t = s == t
is_taken Bne s t = not (s == t)
is_taken Blez s t = int_le (signed s) (pos 0)
is_taken Bgtz s t = int_lt (pos 0) (signed s)
is_taken Bltz s t = int_lt (signed s) (pos 0)
is_taken Bgez s t = int_le (pos 0) (signed s)
is_taken Bltzal s t = int_lt (signed s) (pos 0)
is_taken Bgezal s t = int_le (pos 0) (signed s)

-- BLTZAL and BGEZAL link, whether they are taken or not.
abbrev pub branch_links : BranchOp → Bool
branch_links Bltzal = true
branch_links Bgezal = true
branch_links op = false

-- The registers with a transfer's link in register 31, where it links.
abbrev pub linked : Bool → ℕ → Regs → Regs
linked links pc regs = if links then with_reg regs 31 (link_address pc) else regs

-- A transfer that links and is taken calls its target.
abbrev pub call_of : Bool → (pc target : ℕ) → Linking
call_of calls pc target = if calls then Calls (record { site = pc; target = target }) else Straight

-- A branch that isn't taken goes behind its delay slot.
abbrev pub branch_way : (links taken : Bool) → (pc target : ℕ) → Regs → Decided
branch_way links taken pc target regs = record {
  next = if taken then target else pc + 8;
  regs = linked links pc regs;
  link = call_of (links && taken) pc target;
}

abbrev pub jump_way : (links : Bool) → (pc target : ℕ) → Regs → Decided
jump_way links pc target regs =
    record { next = target; regs = linked links pc regs; link = call_of links pc target }

-- JR goes to the address in its register; register 31 holds the place of the caller.
abbrev pub link_of : ℕ → Linking
link_of rs = if rs == 31 then Returns else Straight

-- JALR reads its target before it writes its link.
abbrev pub jump_link_way : (rd target pc : ℕ) → Regs → Decided
jump_link_way rd target pc regs =
    record { next = target; regs = with_reg regs rd (link_address pc); link = call_of true pc target }

-- The way of a transfer at its address; none for an instruction that is no transfer.
abbrev pub decided : Instr → ℕ → Regs → Option Decided
decided (Branch op rs rt offset) pc regs =
    Some (branch_way (branch_links op) (is_taken op (reg regs rs) (reg regs rt)) pc
    (branch_target pc offset) regs)
decided (Jump link index) pc regs = Some (jump_way link pc (jump_target pc index) regs)
decided (JumpReg rs) pc regs = Some (record { next = reg regs rs; regs = regs; link = link_of rs })
decided (JumpLink rd rs) pc regs = Some (jump_link_way rd (reg regs rs) pc regs)
decided instr pc regs = None

-- What the kind of a transfer's link says: a call opens at its address and goes to its target.
abbrev pub linking_of : LinkKind → (pc next : ℕ) → Linking
linking_of Plain pc next = Straight
linking_of CallKind pc next = Calls (record { site = pc; target = next })
linking_of Return pc next = Returns
