-- The arcs of a laid out program.
use Rattle.std.specs.Prelude.{◌≡◌, ℕ, ◌+◌, ◌<◌, ◌≤◌, ◌⊎◌, ◌||◌, Bool, true, suc, List, [], ◌∷◌, length, map, All, AllPairs, Contains, Some, slice_get, if◌then◌else◌}
use Rattle.flow_net.specs.declared.net.Context.{Context}
use Rattle.flow_net.specs.declared.net.NetArc.{NetArc}
use Rattle.net_model.specs.Places.{IsArcBefore, IsTargetBefore}
use Rattle.net_model.specs.Targets.{is_none}
use Rattle.unit_graph.specs.declared.graph.Graph.{Graph}
use Rattle.unit_graph.specs.declared.node.Unit.{Unit as Node}
use Rattle.call_contexts.specs.Layout.{IsMadeAs, IsSpot}
use Rattle.call_contexts.specs.Spots.{IsNumberAt}
use Rattle.call_contexts.specs.declared.layout.Layout.{Layout}

abbrev pub arc_to : (from to : ℕ) → NetArc
arc_to from to = record { from = from; to = to }

abbrev pub arcs_from : (from : ℕ) → List ℕ → List NetArc
arcs_from from targets = map (arc_to from) targets

-- Where a unit goes on in its own context: a unit that calls goes on only where it may be not taken.
abbrev pub stays : Node → Bool
stays node = is_none node.calls || node.skips

abbrev pub ways_of : Node → List ℕ
ways_of node = if stays node then node.onward else []

-- The place of the entry of a called function, in the context that the call makes.
pub record IsCallTo (graphs : List Graph) (layout : Layout) (context site callee to : ℕ) : Type 0 where
  pub made : ℕ
  pub is : IsMadeAs layout.contexts.keys context site callee made
  pub at : IsNumberAt graphs layout made callee to

abbrev pub HasCallTo : List Graph → Layout → (context site callee : ℕ) → Type 0
HasCallTo graphs layout context site callee = (to : ℕ) × IsCallTo graphs layout context site callee to

-- The place to which a context's function returns: behind the slot of the call that made the context.
pub record ComesBack (graphs : List Graph) (layout : Layout) (context to : ℕ) : Type 0 where
  pub later : 0 < context
  pub of : Context
  pub there : slice_get layout.contexts.keys context ≡ Some of
  pub at : IsNumberAt graphs layout of.parent (of.site + 8) to

-- Context 0 returns to 0.
abbrev pub IsReturnTo : List Graph → Layout → (context to : ℕ) → Type 0
IsReturnTo graphs layout context to = ((context ≡ 0) × (to ≡ 0)) ⊎ ComesBack graphs layout context to

-- A context that isn't 0 has a place to return to.
abbrev pub HasReturnTo : List Graph → Layout → (context : ℕ) → Type 0
HasReturnTo graphs layout context = 0 < context → (to : ℕ) × ComesBack graphs layout context to

-- Where a unit of a context leads to.
pub data Leads (graphs : List Graph) (layout : Layout) (context : ℕ) (node : Node) : (to : ℕ) → Type 0 where
  goes : (to later : ℕ) → Contains (ways_of node) later → IsNumberAt graphs layout context later to →
      Leads graphs layout context node to
  enters : (to callee : ℕ) → Contains node.calls callee → IsCallTo graphs layout context node.address callee to →
      Leads graphs layout context node to
  returns : (to : ℕ) → node.returns ≡ true → IsReturnTo graphs layout context to → Leads graphs layout context node to

-- The targets of a unit's arcs, in their order. Beside its calls there are at most one more than its onward units.
pub record AreTargets (graphs : List Graph) (layout : Layout) (context : ℕ) (node : Node) (targets : List ℕ) : Type 0 where
  pub order : AllPairs IsTargetBefore targets
  pub sound : All (Leads graphs layout context node) targets
  pub whole : (to : ℕ) → Leads graphs layout context node to → Contains targets to
  pub few : length targets ≤ suc (length node.onward) + length node.calls

-- The unit of a place leads to another place, or to 0.
pub record IsWay (graphs : List Graph) (layout : Layout) (from to : ℕ) : Type 0 where
  pub context : ℕ
  pub position : ℕ
  pub node : Node
  pub spot : IsSpot graphs layout context position node from
  pub leads : Leads graphs layout context node to

-- The ways from the places below a number, each one arc, in the order of a net.
pub record AreWays (graphs : List Graph) (layout : Layout) (limit : ℕ) (arcs : List NetArc) : Type 0 where
  pub sound : All (λ (arc : NetArc). (arc.from < limit) × IsWay graphs layout arc.from arc.to) arcs
  pub whole : (from to : ℕ) → from < limit → IsWay graphs layout from to → Contains arcs (arc_to from to)
  pub order : AllPairs IsArcBefore arcs

-- The place of the entry of context 0.
pub record IsFirstPlace (graphs : List Graph) (layout : Layout) (number : ℕ) : Type 0 where
  pub of : Context
  pub there : slice_get layout.contexts.keys 0 ≡ Some of
  pub at : IsNumberAt graphs layout 0 of.target number

-- The arc from 0 comes first, then the ways from the places below a number.
pub record AreArcs (graphs : List Graph) (layout : Layout) (limit : ℕ) (arcs : List NetArc) : Type 0 where
  pub first : ℕ
  pub at : IsFirstPlace graphs layout first
  pub rest : List NetArc
  pub is : arcs ≡ arc_to 0 first ∷ rest
  pub ways : AreWays graphs layout limit rest

-- The ways from all places: their numbers are below the last base.
pub record AreAllArcs (graphs : List Graph) (layout : Layout) (arcs : List NetArc) : Type 0 where
  pub next : ℕ
  pub last : slice_get layout.bases.items (length layout.contexts.keys) ≡ Some next
  pub are : AreArcs graphs layout next arcs
