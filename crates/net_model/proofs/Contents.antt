-- What a unit at an address of a program says: its words are the ones that the machine fetches.
use Rattle.std.proofs.Common.{◌≡◌, ℕ, ◌+◌, Bool, true, false, cond, Option, Some, None, is_some, refl, subst}
use Rattle.std.specs.Prelude.{◌&&◌, if◌then◌else◌}
use Rattle.elf_mips.specs.declared.image.Image.{Image}
use Rattle.elf_mips.specs.Segments.{code_at, is_writable_word}
use Rattle.mips_decode.specs.declared.instr.Instr.{Instr}
use Rattle.mips_decode.specs.declared.instr.Instr.TheVariants.{Three, Shift, HiLo, MulDiv, Imm, Lui, Load, Store, Branch, Jump, JumpReg, JumpLink, Stop}
use Rattle.mips_decode.specs.declared.step.Regs.{Regs}
use Rattle.mips_decode.specs.Records.{needs_target}
use Rattle.mips_decode.specs.Transfer.{decided}
use Rattle.mips_decode.specs.Step.{Fetched, Found, Missing, fetched}
use Rattle.net_model.specs.declared.unit.CodeKind.TheVariants.{LinkRegister, TransferInSlot, UnknownTarget, WritableCode}
use Rattle.net_model.specs.declared.unit.CodeUnit.{CodeUnit}
use Rattle.net_model.specs.declared.unit.Content.{Content}
use Rattle.net_model.specs.declared.unit.Content.TheVariants.{Unit as Stands, Fault}
use Rattle.net_model.specs.Targets.{is_none, linked_content, links_elsewhere, targets_at, unit_at}
use Rattle.net_model.specs.Units.{Word, Holds, Lacks, content_at, content_of, is_transfer, known, with_slot, word_at}

-- What the fetches say of a unit: of its instruction, and of its slot where it has one.
abbrev pub HasSlot : (ℕ → Option ℕ) → (address : ℕ) → Instr → Option Instr → Type 0
HasSlot code address instr None = is_transfer instr ≡ false
HasSlot code address instr (Some slot) =
    (is_transfer instr ≡ true) × (fetched code (address + 4) ≡ Found slot) × (is_transfer slot ≡ false)

pub record IsFetched (code : ℕ → Option ℕ) (address : ℕ) (unit : CodeUnit) : Type 0 where
  pub instr : fetched code address ≡ Found unit.instr
  pub slot : HasSlot code address unit.instr unit.slot

word-fetched : (b : Bool) (found : Fetched) (instr : Instr) → cond b (Lacks WritableCode) (known found) ≡ Holds instr → found ≡ Found instr
word-fetched true found instr same = cc
word-fetched false (Found other) instr same = cc
word-fetched false (Missing kind) instr same = cc

slot-fetched : (image : Image) (address : ℕ) (instr : Instr) (unit : CodeUnit) (w : Word) (b : Bool) →
    fetched (code_at image.segments) address ≡ Found instr → is_transfer instr ≡ true →
    ((slot : Instr) → w ≡ Holds slot → fetched (code_at image.segments) (address + 4) ≡ Found slot) →
    with_slot instr (address + 4) w ≡ Stands unit → IsFetched (code_at image.segments) address unit
slot-fetched image address instr unit (Lacks kind) b found transfer means same = cc
slot-fetched image address instr unit (Holds slot) b found transfer means same = by_slot (is_transfer slot) refl same where
  by_slot : (b : Bool) → is_transfer slot ≡ b →
      cond b (Fault TransferInSlot (address + 4)) (Stands (record { instr = instr; slot = Some slot })) ≡ Stands unit →
      IsFetched (code_at image.segments) address unit
  by_slot true is same = cc
  by_slot false is same =
      let here : (record { instr = instr; slot = Some slot }) ≡ unit = cc in
      subst (λ (u : CodeUnit). IsFetched (code_at image.segments) address u) here
      (record { instr = found; slot = (transfer, means slot refl, is) })

content-fetched : (image : Image) (address : ℕ) (unit : CodeUnit) (w : Word) →
    ((instr : Instr) → w ≡ Holds instr → fetched (code_at image.segments) address ≡ Found instr) →
    content_of image address w ≡ Stands unit → IsFetched (code_at image.segments) address unit
content-fetched image address unit (Lacks kind) means same = cc
content-fetched image address unit (Holds instr) means same = by_kind (is_transfer instr) refl same where
  by_kind : (b : Bool) → is_transfer instr ≡ b →
      cond b (with_slot instr (address + 4) (word_at image (address + 4))) (Stands (record { instr = instr; slot = None })) ≡ Stands unit →
      IsFetched (code_at image.segments) address unit
  by_kind true is same =
      slot-fetched image address instr unit (word_at image (address + 4)) true (means instr refl) is
      (λ slot there. word-fetched (is_writable_word image.segments (address + 4)) (fetched (code_at image.segments) (address + 4)) slot there)
      same
  by_kind false is same =
      let here : (record { instr = instr; slot = None }) ≡ unit = cc in
      subst (λ (u : CodeUnit). IsFetched (code_at image.segments) address u) here
      (record { instr = means instr refl; slot = is })

-- A unit at an address is what the machine fetches there.
pub IsFetched-unit : (image : Image) (address : ℕ) (unit : CodeUnit) → content_at image address ≡ Stands unit →
    IsFetched (code_at image.segments) address unit
IsFetched-unit image address unit stands =
    content-fetched image address unit (word_at image address)
    (λ instr there. word-fetched (is_writable_word image.segments address) (fetched (code_at image.segments) address) instr there)
    stands

-- A unit of the program stands at its address, whatever is recorded.
linked-stands : (image : Image) (address : ℕ) (content : Content) (unit : CodeUnit) → linked_content image address content ≡ Stands unit → content ≡ Stands unit
linked-stands image address (Fault kind place) unit e = cc
linked-stands image address (Stands other) unit e =
    by_tests (needs_target other.instr && is_none (targets_at image address)) (links_elsewhere other.instr) e where
      by_tests : (b c : Bool) →
          (if b then Fault UnknownTarget address else if c then Fault LinkRegister address else Stands other) ≡ Stands unit →
          Stands other ≡ Stands unit
      by_tests true c e = cc
      by_tests false true e = cc
      by_tests false false e = e

pub unit-content : (image : Image) (address : ℕ) (unit : CodeUnit) → unit_at image address ≡ Stands unit → content_at image address ≡ Stands unit
unit-content image address unit stands = linked-stands image address (content_at image address) unit stands

-- Just the jumps and branches decide a way.
pub is_some-decided : (instr : Instr) (pc : ℕ) (regs : Regs) → is_some (decided instr pc regs) ≡ is_transfer instr
is_some-decided (Three op rd rs rt) pc regs = refl
is_some-decided (Shift op rd rt by) pc regs = refl
is_some-decided (HiLo op number) pc regs = refl
is_some-decided (MulDiv op rs rt) pc regs = refl
is_some-decided (Imm op rt rs imm) pc regs = refl
is_some-decided (Lui rt imm) pc regs = refl
is_some-decided (Load op rt base offset) pc regs = refl
is_some-decided (Store op rt base offset) pc regs = refl
is_some-decided (Branch op rs rt offset) pc regs = refl
is_some-decided (Jump link index) pc regs = refl
is_some-decided (JumpReg rs) pc regs = refl
is_some-decided (JumpLink rd rs) pc regs = refl
is_some-decided (Stop op code) pc regs = refl
