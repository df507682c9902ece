-- The first of the faults of some contents.
use Rattle.std.specs.Prelude.{◌≡◌, ℕ, ◌<◌, ◌≤◌, ◌⊎◌, List, Contains, Option, Some, None}
use Rattle.net_model.specs.declared.unit.CodeKind.{CodeKind}
use Rattle.net_model.specs.declared.unit.Content.{Content}
use Rattle.net_model.specs.declared.unit.Content.TheVariants.{Unit as Stands, Fault}
use Rattle.elf_mips.specs.declared.image.Image.{Image}
use Rattle.net_model.specs.Faults.{IsCode, rank}
use Rattle.net_model.specs.Targets.{unit_at}
use Rattle.unit_graph.specs.declared.first.Offence.{Offence}

-- A fault of this kind and place doesn't come before the offence: its kind is a later one, or it is of
-- the same rank and its place isn't a lesser one.
abbrev pub IsNoEarlier : Offence → CodeKind → ℕ → Type 0
IsNoEarlier offence kind place =
    (rank offence.kind < rank kind) ⊎ ((rank offence.kind ≡ rank kind) × (offence.place ≤ place))

-- What stands there is no fault that comes before the first one. Where there is no first one, it is no
-- fault at all.
abbrev pub Follows : Option Offence → Content → Type 0
Follows first (Stands unit) = Unit {0}
Follows None (Fault kind place) = ⊥
Follows (Some offence) (Fault kind place) = IsNoEarlier offence kind place

-- The first fault, if there is one, is that of these contents.
abbrev pub IsFaultOf : Option Offence → Content → Type 0
IsFaultOf None content = ⊥
IsFaultOf (Some offence) content = content ≡ Fault offence.kind offence.place

-- The first fault, if there is one, is that of some of the contents.
abbrev pub IsAmong : Option Offence → List Content → Type 0
IsAmong None contents = Unit {0}
IsAmong (Some offence) contents = Contains contents (Fault offence.kind offence.place)

-- An address that some function reaches has a fault of this kind at this place.
pub record IsFaulty (image : Image) (entry : ℕ) (kind : CodeKind) (place : ℕ) : Type 0 where
  pub address : ℕ
  pub code : IsCode image entry address
  pub faulty : unit_at image address ≡ Fault kind place

-- The first of these faults, or none.
abbrev pub IsFirstFaulty : Image → (entry : ℕ) → Option Offence → Type 0
IsFirstFaulty image entry None = (kind : CodeKind) (place : ℕ) → IsFaulty image entry kind place → ⊥
IsFirstFaulty image entry (Some offence) =
    IsFaulty image entry offence.kind offence.place
    × ((kind : CodeKind) (place : ℕ) → IsFaulty image entry kind place → IsNoEarlier offence kind place)
