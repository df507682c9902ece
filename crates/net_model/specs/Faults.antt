-- The faults of a program's code, functions and calls among it, and their order.
use Rattle.std.specs.Prelude.{◌≡◌, ℕ, ◌<◌}
use Rattle.elf_mips.specs.declared.image.Image.{Image}
use Rattle.net_model.specs.declared.unit.CodeKind.{CodeKind}
use Rattle.net_model.specs.declared.unit.CodeKind.TheVariants.{WritableCode, UnknownWord, TransferInSlot, UnknownTarget, LinkRegister, Recursion, Irreducible, NoBound}
use Rattle.net_model.specs.declared.unit.Content.TheVariants.{Fault}
use Rattle.net_model.specs.Functions.{IsFunction, IsReached, IsRecursive}
use Rattle.net_model.specs.Targets.{unit_at}

-- Of several kinds that a program's code has, the one of the least rank is answered.
abbrev pub rank : CodeKind → ℕ
rank WritableCode = 0
rank UnknownWord = 1
rank TransferInSlot = 2
rank UnknownTarget = 3
rank LinkRegister = 4
rank Recursion = 5
rank Irreducible = 6
rank NoBound = 7

-- Some function of the program reaches the address.
pub record IsCode (image : Image) (entry address : ℕ) : Type 0 where
  pub function : ℕ
  pub is : IsFunction image entry function
  pub reached : IsReached image function address

-- The code has a fault of this kind at this place: an address that some function reaches has it, or the
-- function of that entry calls itself, directly or through others.
pub data Offends (image : Image) (entry : ℕ) : (kind : CodeKind) (place : ℕ) → Type 0 where
  faulty : (kind : CodeKind) (place address : ℕ) → IsCode image entry address →
      unit_at image address ≡ Fault kind place → Offends image entry kind place
  recursive : (function : ℕ) → IsRecursive image entry function → Offends image entry Recursion function

-- The first fault of the code: no earlier kind has an offender, and no lesser place has one of this kind.
pub record IsFirstFault (image : Image) (entry : ℕ) (kind : CodeKind) (place : ℕ) : Type 0 where
  pub offends : Offends image entry kind place
  pub first : (other : CodeKind) (lesser : ℕ) → rank other < rank kind → Offends image entry other lesser → ⊥
  pub least : (lesser : ℕ) → lesser < place → Offends image entry kind lesser → ⊥

-- The code has no fault.
abbrev pub HasNoFault : Image → ℕ → Type 0
HasNoFault image entry = (kind : CodeKind) (place : ℕ) → Offends image entry kind place → ⊥
