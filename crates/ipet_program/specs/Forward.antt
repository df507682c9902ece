-- Nets whose places' numbers rise along each arc but the back arcs. They are nested (`nested-forward`
-- of proofs/ForwardNets.antt).
use Rattle.std.specs.Prelude.{◌≡◌, ℕ, ◌<◌, ◌≤◌, ◌⊎◌, List, [], length, Some, All}
use Rattle.flow_net.specs.Entering.{IsOutside}
use Rattle.flow_net.specs.Nested.{IsBack}
use Rattle.flow_net.specs.Numbers.{IsNumberOf, IsNumberOrZero, item_at}
use Rattle.flow_net.specs.Scopes.{HasScopes, Holds}
use Rattle.flow_net.specs.declared.net.Access.{Access}
use Rattle.flow_net.specs.declared.net.LoopInst.{LoopInst}
use Rattle.flow_net.specs.declared.net.Net.{Net}
use Rattle.flow_net.specs.declared.net.NetArc.{NetArc}
use Rattle.flow_net.specs.declared.net.Place.{Place}

-- A fact of each number of an item up to one, and of its item.
abbrev pub EachItem : {T : Type 0} → (ℕ → T → Type 0) → (upto : ℕ) → List T → Type 0
EachItem {T} P upto items =
    (number : ℕ) (item : T) → number ≤ upto → item_at number items ≡ Some item → P number item

-- An arc that comes to a place from one of a lesser number, or from 0.
pub record IsReached (arcs : List NetArc) (place : ℕ) : Type 0 where
  pub number : ℕ
  pub arc : NetArc
  pub there : item_at number arcs ≡ Some arc
  pub to : arc.to ≡ place
  pub rises : arc.from < place

-- An arc that goes to 0.
pub record IsLeft (arcs : List NetArc) : Type 0 where
  pub number : ℕ
  pub arc : NetArc
  pub there : item_at number arcs ≡ Some arc
  pub to : arc.to ≡ 0

pub record IsForwardPlace (net : Net) (number : ℕ) (place : Place) : Type 0 where
  pub context : place.context < length net.contexts
  pub reached : IsReached net.arcs number

pub record IsForwardLoop (net : Net) (scope : ℕ) (inst : LoopInst) : Type 0 where
  pub header : IsNumberOf net.places inst.header
  pub bound : 1 ≤ inst.bound
  pub own : (place : Place) → item_at inst.header net.places ≡ Some place → place.scope ≡ scope

-- Where the arc comes into a loop instance, it goes to its header.
abbrev pub EntersAt : Net → NetArc → ℕ → LoopInst → Type 0
EntersAt net arc scope inst = Holds net scope arc.to → IsOutside net scope arc.from → arc.to ≡ inst.header

pub record IsForwardArc (net : Net) (number : ℕ) (arc : NetArc) : Type 0 where
  pub from : IsNumberOrZero net.places arc.from
  pub to : IsNumberOrZero net.places arc.to
  pub first : number ≡ 1 → arc.from ≡ 0
  pub only : arc.from ≡ 0 → number ≡ 1
  pub entered : arc.from ≡ 0 → 0 < arc.to
  pub rises : 0 < arc.from → 0 < arc.to → (arc.from < arc.to) ⊎ IsBack net arc
  pub enters : EachItem (EntersAt net arc) (length net.loops) net.loops

pub record IsForward (net : Net) : Type 0 where
  pub parents : All (λ context. context.parent < length net.contexts) net.contexts
  pub scopes : HasScopes net
  pub places : EachItem (IsForwardPlace net) (length net.places) net.places
  pub loops : EachItem (IsForwardLoop net) (length net.loops) net.loops
  pub arcs : EachItem (IsForwardArc net) (length net.arcs) net.arcs
  pub left : IsLeft net.arcs
  pub accesses : All (λ (access : Access). IsNumberOf net.places access.place) net.accesses
