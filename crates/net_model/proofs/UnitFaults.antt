-- The fault of a unit comes before all that functions and loops have.
use Rattle.std.proofs.Common.{◌≡◌, ℕ, ◌+◌, ◌<◌, Bool, true, false, Some, None, subst, arith}
use Rattle.std.specs.Prelude.{if◌then◌else◌, ◌&&◌}
use Rattle.elf_mips.specs.declared.image.Image.{Image}
use Rattle.elf_mips.specs.Segments.{code_at, is_writable_word}
use Rattle.mips_decode.specs.Records.{needs_target}
use Rattle.mips_decode.specs.Step.{Fetched, Found, Missing, fetched}
use Rattle.mips_decode.specs.declared.instr.Instr.{Instr}
use Rattle.net_model.specs.declared.unit.CodeKind.{CodeKind}
use Rattle.net_model.specs.declared.unit.CodeKind.TheVariants.{LinkRegister, TransferInSlot, UnknownTarget, WritableCode}
use Rattle.net_model.specs.declared.unit.Content.{Content}
use Rattle.net_model.specs.declared.unit.Content.TheVariants.{Unit as Stands, Fault}
use Rattle.net_model.specs.Faults.{rank}
use Rattle.net_model.specs.Targets.{is_none, linked_content, links_elsewhere, targets_at, unit_at}
use Rattle.net_model.specs.Units.{Holds, Lacks, Word, content_at, content_of, is_transfer, known, with_slot, word_at}

-- The kind of a fault, if there is one, comes before recursion.
abbrev IsLowWord : Word → Type 0
IsLowWord (Holds instr) = Unit {0}
IsLowWord (Lacks kind) = rank kind < 5

abbrev IsLow : Content → Type 0
IsLow (Stands unit) = Unit {0}
IsLow (Fault kind place) = rank kind < 5

word_by : (b : Bool) (f : Fetched) → IsLowWord (if b then Lacks WritableCode else known f)
word_by true f = omega arith
word_by false (Found instr) = tt
word_by false (Missing kind) = omega arith

word_low : (image : Image) (address : ℕ) → IsLowWord (word_at image address)
word_low image address = word_by (is_writable_word image.segments address) (fetched (code_at image.segments) address)

slot_by : (instr : Instr) (address : ℕ) (word : Word) → IsLowWord word → IsLow (with_slot instr address word)
slot_by instr address (Lacks kind) low = low
slot_by instr address (Holds slot) low = by_case (is_transfer slot)
  where
    by_case : (b : Bool) → IsLow (if b then Fault TransferInSlot address else Stands (record { instr = instr; slot = Some slot }))
    by_case true = omega arith
    by_case false = tt

content_by : (image : Image) (address : ℕ) (word : Word) → IsLowWord word → IsLow (content_of image address word)
content_by image address (Lacks kind) low = low
content_by image address (Holds instr) low = by_case (is_transfer instr)
  where
    by_case : (b : Bool) → IsLow (if b then with_slot instr (address + 4) (word_at image (address + 4)) else Stands (record { instr = instr; slot = None }))
    by_case true = slot_by instr (address + 4) (word_at image (address + 4)) (word_low image (address + 4))
    by_case false = tt

linked_by : (image : Image) (address : ℕ) (content : Content) → IsLow content → IsLow (linked_content image address content)
linked_by image address (Fault kind place) low = low
linked_by image address (Stands unit) low = by_case (needs_target unit.instr && is_none (targets_at image address)) (links_elsewhere unit.instr)
  where
    by_case : (a b : Bool) → IsLow (if a then Fault UnknownTarget address else if b then Fault LinkRegister address else Stands unit)
    by_case true b = omega arith
    by_case false true = omega arith
    by_case false false = tt

pub unit_rank : (image : Image) (address : ℕ) (kind : CodeKind) (place : ℕ) → unit_at image address ≡ Fault kind place → rank kind < 5
unit_rank image address kind place e =
    subst IsLow e (linked_by image address (content_at image address) (content_by image address (word_at image address) (word_low image address)))
