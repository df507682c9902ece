-- The net of a program: a place for each unit of each context, an arc for each way on, call and return, an
-- instance of each loop in each context, and the accesses of each place.
use Rattle.std.specs.Prelude.{◌≡◌, ℕ, ◌+◌, ◌<◌, drop, All, AllPairs, Contains, Some, true, slice_get}
use Rattle.elf_mips.specs.declared.image.Image.{Image}
use Rattle.flow_net.specs.Numbers.{item_at}
use Rattle.flow_net.specs.declared.net.Context.{Context}
use Rattle.flow_net.specs.declared.net.Net.{Net}
use Rattle.flow_net.specs.declared.net.NetArc.{NetArc}
use Rattle.flow_net.specs.declared.net.Place.{Place}
use Rattle.net_model.specs.declared.unit.CodeUnit.{CodeUnit}
use Rattle.net_model.specs.declared.unit.Content.TheVariants.{Unit as Stands}
use Rattle.net_model.specs.Accesses.{accesses_from}
use Rattle.net_model.specs.Contexts.{AreContexts, Reaches, made_by}
use Rattle.net_model.specs.Flow.{called, ways_on}
use Rattle.net_model.specs.Instances.{HasInstances}
use Rattle.net_model.specs.Onward.{returns}
use Rattle.net_model.specs.Places.{IsArcBefore, IsPlaceBefore, IsPlaceOf}
use Rattle.net_model.specs.Targets.{unit_at}

-- Where a unit at an address of a context leads: to the places of its ways in the same context; a call to the
-- entry's place of each context that it makes; a return unit to the place behind the call that made its context
-- and behind that call's slot, or to 0 in context 0.
pub data LeadsTo (image : Image) (net : Net) (unit : CodeUnit) (context address : ℕ) : (to : ℕ) → Type 0 where
  goes : (to later : ℕ) → Contains (ways_on image unit address) later → IsPlaceOf net to context later →
      LeadsTo image net unit context address to
  calls : (to made callee : ℕ) → Contains (called image unit address) callee → 0 < made →
      slice_get net.contexts made ≡ Some (made_by context address callee) → IsPlaceOf net to made callee →
      LeadsTo image net unit context address to
  comes_back : (to : ℕ) (of : Context) → returns unit ≡ true → 0 < context →
      slice_get net.contexts context ≡ Some of → IsPlaceOf net to of.parent (of.site + 8) →
      LeadsTo image net unit context address to
  ends : returns unit ≡ true → context ≡ 0 → LeadsTo image net unit context address 0

-- The unit of a place leads to another place, or to 0.
pub record LeadsOn (image : Image) (net : Net) (from to : ℕ) : Type 0 where
  pub place : Place
  pub there : item_at from net.places ≡ Some place
  pub unit : CodeUnit
  pub stands : unit_at image place.address ≡ Stands unit
  pub leads : LeadsTo image net unit place.context place.address to

-- The places of a net: one for each unit that the function of a context reaches, by the contexts and their rising
-- addresses.
pub record HasPlaces (image : Image) (net : Net) : Type 0 where
  pub rising : AllPairs IsPlaceBefore net.places
  pub reached : (number : ℕ) (place : Place) → item_at number net.places ≡ Some place →
      Reaches image net.contexts place.context place.address
  pub whole : (context address : ℕ) → Reaches image net.contexts context address →
      (number : ℕ) × IsPlaceOf net number context address

-- The arcs of a net: arc 1 goes from 0 to the entry's place in context 0. Each further arc is a way on, a call or a
-- return, and each of these is one arc, by rising places and targets.
pub record HasArcs (image : Image) (entry : ℕ) (net : Net) : Type 0 where
  pub first : (arc : NetArc) × (item_at 1 net.arcs ≡ Some arc) × (arc.from ≡ 0) × IsPlaceOf net arc.to 0 entry
  pub ways : (number : ℕ) (arc : NetArc) → item_at number net.arcs ≡ Some arc → 1 < number →
      LeadsOn image net arc.from arc.to
  pub arcs : (from to : ℕ) → LeadsOn image net from to →
      (number : ℕ) × (1 < number) × (item_at number net.arcs ≡ Some (record { from = from; to = to }))
  pub order : AllPairs IsArcBefore (drop 1 net.arcs)

-- A unit stands at the address of each place: so it is where the code has no fault.
pub record IsUnitOf (image : Image) (place : Place) : Type 0 where
  pub unit : CodeUnit
  pub stands : unit_at image place.address ≡ Stands unit

abbrev pub HasUnits : Image → Net → Type 0
HasUnits image net = All (IsUnitOf image) net.places

-- The net of a program from its entry on.
pub record IsNet (image : Image) (entry : ℕ) (net : Net) : Type 0 where
  pub contexts : AreContexts image entry net.contexts
  pub places : HasPlaces image net
  pub arcs : HasArcs image entry net
  pub loops : HasInstances image net
  pub accesses : net.accesses ≡ accesses_from image 1 net.places
