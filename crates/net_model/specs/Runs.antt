-- Runs of a program in its net: where a run stands, which runs keep the records, and the moments of a run.
use Rattle.std.specs.Prelude.{◌≡◌, ℕ, ◌<◌, Bool, List, [], ◌∷◌, ◌++◌, Option, Some}
use Rattle.std.specs.List.{AllZip, filter}
use Rattle.elf_mips.specs.declared.image.Image.{Image}
use Rattle.elf_mips.specs.Segments.{code_at}
use Rattle.flow_net.specs.Numbers.{item_at}
use Rattle.flow_net.specs.Paths.{IsRunPath}
use Rattle.flow_net.specs.Visits.{KeepsBounds}
use Rattle.flow_net.specs.declared.net.Access.{Access}
use Rattle.flow_net.specs.declared.net.Net.{Net}
use Rattle.flow_net.specs.declared.net.NetArc.{NetArc}
use Rattle.mips_decode.specs.Accesses.{UnitAccess, accesses_by, goes_through}
use Rattle.mips_decode.specs.Effect.{reg}
use Rattle.mips_decode.specs.Run.{IsRun}
use Rattle.mips_decode.specs.State.{State, return_address}
use Rattle.mips_decode.specs.Units.{KeepTargets, ReturnsToCallers, RunUnit, Stand, stand_after, units_of, visits}
use Rattle.net_model.specs.Accesses.{kind_of}
use Rattle.net_model.specs.Contexts.{IsContextOf}
use Rattle.net_model.specs.Moments.{Makes, Moment, Takes, VisitNone, arcs_of}
use Rattle.net_model.specs.Net.{IsNet}
use Rattle.net_model.specs.Places.{IsPlaceOf}
use Rattle.net_model.specs.Targets.{targets_at}
use Rattle.net_model.specs.Walks.{IsWalk, own_range}

-- The place where a run stands: that of the address in the context of the open calls.
pub record IsPlaceFor (net : Net) (stand : Stand) (number : ℕ) : Type 0 where
  pub context : ℕ
  pub by : IsContextOf net.contexts stand.calls context
  pub at : IsPlaceOf net number context stand.address

-- The places of these visits, in order.
abbrev pub AreVisited : Net → List Stand → List ℕ → Type 0
AreVisited net stands places = AllZip (IsPlaceFor net) stands places

-- The units of a run keep the records of an image: each indirect transfer goes to a target recorded for it, and in the
-- net the places that the run visits keep the bound of each loop instance, as far as the visits have places: each
-- front of them that all have places keeps it. (After a return to another place than the caller's a visit may have
-- none. A program has one net: `net-once` of call_contexts/proofs/NetOnce.antt.) Records of ranges aren't asked.
pub record KeepsRecords (image : Image) (entry : ℕ) (units : List RunUnit) : Type 0 where
  pub targets : KeepTargets (targets_at image) units
  pub bounds : (net : Net) → IsNet image entry net → (front rest : List RunUnit) → units ≡ front ++ rest →
      (places : List ℕ) → AreVisited net (visits front) places → KeepsBounds net places

-- A run of an image's code from its entry on, with register 0 zero, whose indirect transfers go to recorded targets
-- and which returns to its callers.
pub record IsKeptRun (image : Image) (entry : ℕ) (s : State) (states : List State) : Type 0 where
  pub begins : s.pc ≡ entry
  pub zero : reg s.regs 0 ≡ 0
  pub run : IsRun (code_at image.segments) s states
  pub targets : KeepTargets (targets_at image) (units_of (code_at image.segments) s states)
  pub callers : ReturnsToCallers (units_of (code_at image.segments) s states)

-- Where a run stands in a net: at 0 once its entry has returned, else at the place of the stand.
pub record StandsAt (net : Net) (stand : Stand) (number : ℕ) : Type 0 where
  pub returned : stand.address ≡ return_address → number ≡ 0
  pub within : (stand.address ≡ return_address → ⊥) → IsPlaceFor net stand number

-- The accesses of a unit that have numbers in the net: those that go through a chain of caches to memory.
abbrev pub numbered_accesses : RunUnit → List UnitAccess
numbered_accesses unit =
    filter (λ (access : UnitAccess). goes_through access.kind) (accesses_by unit.at.address unit.step)

-- A moment is this access of a unit at a place: it makes an access of the place that is of this kind and belongs to
-- this instruction, at the unit's own address.
pub record IsMadeBy (net : Net) (place : ℕ) (made : UnitAccess) (moment : Moment) : Type 0 where
  pub number : ℕ
  pub access : Access
  pub there : item_at number net.accesses ≡ Some access
  pub own : access.place ≡ place
  pub kind : kind_of access.role ≡ made.kind
  pub at : access.at ≡ made.at
  pub caches : ℕ
  pub hit : Bool
  pub makes : moment ≡ Makes number made.address caches hit

-- The moments of a unit at a place: the accesses that it makes there, in its order, and then the arc of this number,
-- which goes from the place to where the run stands after the unit.
pub record IsUnitTold (net : Net) (from : ℕ) (unit : RunUnit) (made : List Moment) (number to : ℕ) : Type 0 where
  pub before : StandsAt net unit.at from
  pub accesses : AllZip (IsMadeBy net from) (numbered_accesses unit) made
  pub positive : 0 < from
  pub arc : NetArc
  pub there : item_at number net.arcs ≡ Some arc
  pub leaves : arc.from ≡ from
  pub leads : arc.to ≡ to
  pub after : StandsAt net (stand_after unit) to

-- The moments of these units from a place on, one unit after the other.
abbrev pub AreMoments : Net → (from : ℕ) → List RunUnit → List Moment → Type 0
AreMoments net from [] moments = moments ≡ []
AreMoments net from (unit ∷ units) moments =
    (made : List Moment) × ((number : ℕ) × ((to : ℕ) × ((rest : List Moment)
    × IsUnitTold net from unit made number to
    × (moments ≡ made ++ Takes number ∷ rest)
    × AreMoments net to units rest)))

-- The moments of a run from its entry on: arc 1, which comes from 0 and goes to where the run begins, and then those
-- of its units.
pub record AreRunMoments (net : Net) (entry : ℕ) (did : List RunUnit) (moments : List Moment) : Type 0 where
  pub arc : NetArc
  pub first : item_at 1 net.arcs ≡ Some arc
  pub outside : arc.from ≡ 0
  pub begins : StandsAt net (record { calls = []; address = entry }) arc.to
  pub rest : List Moment
  pub enters : moments ≡ Takes 1 ∷ rest
  pub units : AreMoments net arc.to did rest

-- A run goes along a path of the net that begins with arc 1, and at each place of it makes the accesses of its unit.
pub record GoesAlong (net : Net) (code : ℕ → Option ℕ) (s : State) (states : List State) : Type 0 where
  pub moments : List Moment
  pub to : ℕ
  pub path : IsRunPath net.arcs (arcs_of moments) to
  pub units : AreRunMoments net s.pc (units_of code s states) moments
  -- So they are a walk.
  pub walk : IsWalk net (own_range net) moments
  -- Without caches no access visits one.
  pub uncached : VisitNone moments
