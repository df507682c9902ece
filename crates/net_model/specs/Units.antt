-- Units: what stands at an address of an image, as one step of the machine.
use Rattle.std.specs.Prelude.{ℕ, ◌+◌, Bool, true, false, Some, None, if◌then◌else◌}
use Rattle.elf_mips.specs.declared.image.Image.{Image}
use Rattle.elf_mips.specs.Segments.{code_at, is_writable_word}
use Rattle.mips_decode.specs.declared.instr.Instr.{Instr}
use Rattle.mips_decode.specs.declared.instr.Instr.TheVariants.{Branch, Jump, JumpReg, JumpLink}
use Rattle.mips_decode.specs.Step.{Fetched, Found, Missing, fetched}
use Rattle.net_model.specs.declared.unit.CodeKind.{CodeKind}
use Rattle.net_model.specs.declared.unit.CodeKind.TheVariants.{WritableCode, UnknownWord, TransferInSlot}
use Rattle.net_model.specs.declared.unit.Content.{Content}
use Rattle.net_model.specs.declared.unit.Content.TheVariants.{Unit as Stands, Fault}

-- What a word holds: an instruction, or a fault.
pub data Word : Type 0 where
  Holds : (instr : Instr) → Word
  Lacks : (kind : CodeKind) → Word

-- Without an executable word, or with one that isn't in the instruction table, the word is unknown.
abbrev pub known : Fetched → Word
known (Found instr) = Holds instr
known (Missing kind) = Lacks UnknownWord

-- The word at an address. One that may change isn't looked at further.
abbrev pub word_at : Image → ℕ → Word
word_at image address =
    if is_writable_word image.segments address
    then Lacks WritableCode
    else known (fetched (code_at image.segments) address)

-- Jumps and branches have a delay slot.
abbrev pub is_transfer : Instr → Bool
is_transfer (Branch op rs rt offset) = true
is_transfer (Jump link index) = true
is_transfer (JumpReg rs) = true
is_transfer (JumpLink rd rs) = true
is_transfer instr = false

-- A delay slot holds an instruction that is no jump or branch.
abbrev pub with_slot : Instr → ℕ → Word → Content
with_slot instr address (Lacks kind) = Fault kind address
with_slot instr address (Holds slot) =
    if is_transfer slot
    then Fault TransferInSlot address
    else Stands (record { instr = instr; slot = Some slot })

-- The slot of a jump or branch stands behind it.
abbrev pub content_of : Image → ℕ → Word → Content
content_of image address (Lacks kind) = Fault kind address
content_of image address (Holds instr) =
    if is_transfer instr
    then with_slot instr (address + 4) (word_at image (address + 4))
    else Stands (record { instr = instr; slot = None })

-- What stands at an address: a unit, or its fault.
abbrev pub content_at : Image → ℕ → Content
content_at image address = content_of image address (word_at image address)
