-- What the code knows of the places of a net, and how it finds the next one.
use Rattle.std.specs.Prelude.{◌≡◌, ℕ, ◌+◌, ◌<◌, Bool, List, [], ◌∷◌, Option, Some, None, is_some, slice_get, if◌then◌else◌}
use Rattle.std.specs.List.{AllZip}
use Rattle.code_units.specs.Targets.{AreTargets}
use Rattle.code_units.specs.Ways.{IsPlaced}
use Rattle.elf_mips.specs.declared.image.Image.{Image}
use Rattle.flow_net.specs.Numbers.{item_at}
use Rattle.flow_net.specs.declared.net.Context.{Context}
use Rattle.flow_net.specs.declared.net.Net.{Net}
use Rattle.flow_net.specs.declared.net.NetArc.{NetArc}
use Rattle.flow_net.specs.declared.net.Place.{Place}
use Rattle.mips_decode.specs.Records.{needs_target}
use Rattle.mips_decode.specs.Transfer.{Linking, Straight, Calls, Returns}
use Rattle.mips_decode.specs.declared.instr.Instr.{Instr}
use Rattle.net_model.specs.Contexts.{made_by}
use Rattle.net_model.specs.Targets.{unit_at}
use Rattle.net_model.specs.declared.unit.CodeUnit.{CodeUnit}
use Rattle.net_model.specs.declared.unit.Content.TheVariants.{Unit as Stands}
use Rattle.net_tables.specs.Tables.{AreArcsOut}
use Rattle.image_run.specs.Links.{link_in}
use Rattle.image_run.specs.Ranges.{IsLimits}
use Rattle.image_run.specs.declared.road.Road.{Road}
use Rattle.image_run.specs.declared.spots.Spot.{Spot}

-- A unit stands at the address.
pub record HasUnitAt (image : Image) (address : ℕ) : Type 0 where
  pub unit : CodeUnit
  pub stands : unit_at image address ≡ Stands unit

abbrev pub slots_in : Option Instr → List Instr
slots_in None = []
slots_in (Some slot) = slot ∷ []

-- The instructions of a unit, in their order.
abbrev pub unit_instrs : Instr → Option Instr → List Instr
unit_instrs instr slot = instr ∷ slots_in slot

-- The address of the instruction that loads or stores: that of the slot, if there is one.
abbrev pub site_by : (slot : Bool) → (address : ℕ) → ℕ
site_by slot address = if slot then address + 4 else address

-- What a spot says of a unit at an address.
pub record IsSpotOf (image : Image) (unit : CodeUnit) (address : ℕ) (spot : Spot) : Type 0 where
  pub link : spot.link ≡ link_in unit.instr
  pub indirect : spot.indirect ≡ needs_target unit.instr
  pub slot : spot.slot ≡ is_some unit.slot
  pub limits : IsLimits image (site_by spot.slot address) spot.limits

-- It tells of the unit at an address.
pub record IsSpotAt (image : Image) (address : ℕ) (spot : Spot) : Type 0 where
  pub unit : CodeUnit
  pub stands : unit_at image address ≡ Stands unit
  pub placed : IsPlaced unit address
  pub tells : IsSpotOf image unit address spot

abbrev pub AreSpots : Image → List Place → List Spot → Type 0
AreSpots image places spots = AllZip (λ (place : Place) (spot : Spot). IsSpotAt image place.address spot) places spots

-- The tables of a net: the unit of each place, the records of targets, and the arcs that leave each place.
pub record IsRoad (image : Image) (net : Net) (road : Road) : Type 0 where
  pub spots : AreSpots image net.places road.spots.items
  pub targets : AreTargets image road.targets
  pub arcs : AreArcsOut net road.arcs.items

-- The context behind a unit in a context: a call goes on in the one that it makes, a return in that of the call which
-- made its own, and all else stays.
abbrev pub IsContextBehind : List Context → Linking → (from to : ℕ) → Type 0
IsContextBehind contexts Straight from to = to ≡ from
IsContextBehind contexts (Calls call) from to =
    (0 < to) × (slice_get contexts to ≡ Some (made_by from call.site call.target))
IsContextBehind contexts Returns from to = (context : Context) → slice_get contexts from ≡ Some context → to ≡ context.parent

-- The place to which a unit goes with such a call or return, at this address.
pub record IsPlaceBehind (net : Net) (link : Linking) (from next number : ℕ) : Type 0 where
  pub place : Place
  pub there : item_at number net.places ≡ Some place
  pub same : place.address ≡ next
  pub context : IsContextBehind net.contexts link from place.context

-- The arc of a number doesn't go there.
abbrev pub IsNoWay : Net → Linking → (from next number : ℕ) → Type 0
IsNoWay net link from next number =
    (arc : NetArc) → item_at number net.arcs ≡ Some arc → IsPlaceBehind net link from next arc.to → ⊥
