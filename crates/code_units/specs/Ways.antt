-- Sets of at most two addresses, and units of the instruction table whose further addresses are below 2 ^ 32.
use Rattle.std.specs.Prelude.{◌≡◌, ℕ, ◌+◌, ◌<◌, ◌^◌, List, [], ◌∷◌, IfSome, true}
use Rattle.mips_decode.specs.Table.{IsValid}
use Rattle.net_model.specs.Units.{is_transfer}
use Rattle.net_model.specs.declared.unit.CodeUnit.{CodeUnit}
use Rattle.net_model.specs.declared.unit.Content.{Content}
use Rattle.net_model.specs.declared.unit.Content.TheVariants.{Unit as Stands, Fault}
use Rattle.code_units.specs.declared.ways.Ways.{Ways}
use Rattle.code_units.specs.declared.ways.Ways.TheVariants.{Nowhere, One, Two}

-- The addresses of such a set.
abbrev pub listed : Ways → List ℕ
listed Nowhere = []
listed (One address) = address ∷ []
listed (Two lesser greater) = lesser ∷ greater ∷ []

-- The unit's instructions are of the table, and only a jump or branch has a slot.
pub record IsStanding (unit : CodeUnit) : Type 0 where
  pub valid : IsValid unit.instr
  pub slot : IfSome unit.slot (λ slot. IsValid slot × (is_transfer unit.instr ≡ true))

-- A unit of the instruction table, at an address behind whose two words no address wraps.
pub record IsPlaced (unit : CodeUnit) (address : ℕ) : Type 0 where
  pub standing : IsStanding unit
  pub low : address + 8 < 2 ^ 32

-- Where a unit stands at an address, it is placed there.
abbrev pub IfPlaced : Content → ℕ → Type 0
IfPlaced (Stands unit) address = IsPlaced unit address
IfPlaced (Fault kind place) address = Unit {0}
