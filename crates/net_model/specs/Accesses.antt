-- The accesses of places.
use Rattle.std.specs.Prelude.{ℕ, suc, ◌+◌, List, [], ◌∷◌, ◌++◌, Option, Some, None, is_some, if◌then◌else◌}
use Rattle.elf_mips.specs.declared.image.Image.{Image}
use Rattle.flow_net.specs.declared.net.Access.{Access}
use Rattle.flow_net.specs.declared.net.Place.{Place}
use Rattle.flow_net.specs.declared.net.Role.{Role}
use Rattle.flow_net.specs.declared.net.Role.TheVariants.{Fetch, Slot, Load, Store}
use Rattle.mips_decode.specs.declared.step.AccessKind.{AccessKind}
use Rattle.mips_decode.specs.declared.step.AccessKind.TheVariants as kind
use Rattle.net_model.specs.declared.unit.CodeUnit.{CodeUnit}
use Rattle.net_model.specs.declared.unit.Content.{Content}
use Rattle.net_model.specs.declared.unit.Content.TheVariants.{Unit as Stands, Fault}
use Rattle.net_model.specs.Onward.{load_of}
use Rattle.net_model.specs.Targets.{unit_at}

-- What an access of the net is, as the accesses of a unit that is done are told.
abbrev pub kind_of : Role → AccessKind
kind_of Fetch = kind.Fetch
kind_of Slot = kind.Slot
kind_of Load = kind.Load
kind_of Store = kind.Store

abbrev pub access : (number : ℕ) → Role → (address : ℕ) → Access
access number role address = record { place = number; role = role; at = address }

-- The load, where the instruction or the slot loads.
abbrev pub load_access : (number : ℕ) → Option ℕ → List Access
load_access number None = []
load_access number (Some address) = access number Load address ∷ []

-- The accesses of a unit: its fetch, the fetch of its slot where it has one, and its load.
abbrev pub unit_accesses : (number : ℕ) → CodeUnit → (address : ℕ) → List Access
unit_accesses number unit address =
    access number Fetch address
    ∷ (if is_some unit.slot then access number Slot (address + 4) ∷ [] else [])
    ++ load_access number (load_of unit address)

abbrev pub content_accesses : (number : ℕ) → Content → (address : ℕ) → List Access
content_accesses number (Stands unit) address = unit_accesses number unit address
content_accesses number (Fault kind place) address = []

-- The accesses of these places, which have the numbers from the given one on.
abbrev pub accesses_from : Image → (number : ℕ) → List Place → List Access
accesses_from image number [] = []
accesses_from image number (place ∷ more) =
    content_accesses number (unit_at image place.address) place.address ++ accesses_from image (suc number) more
