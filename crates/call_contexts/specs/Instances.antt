-- The loop instances of a layout and the scopes of its places, by the contexts and the positions of units and loops.
use Rattle.std.specs.Prelude.{◌≡◌, ℕ, suc, ◌+◌, ◌<◌, ◌⊎◌, List, ◌++◌, length, map, Option, Some, None, slice_get}
use Rattle.elf_mips.specs.declared.image.Image.{Image}
use Rattle.flow_net.specs.Numbers.{item_at}
use Rattle.flow_net.specs.declared.net.Context.{Context}
use Rattle.flow_net.specs.declared.net.LoopInst.{LoopInst}
use Rattle.flow_net.specs.declared.net.Net.{Net}
use Rattle.flow_net.specs.declared.net.Place.{Place}
use Rattle.loop_nest.specs.declared.nest.Loop.{Loop}
use Rattle.loop_nest.specs.declared.nest.Nests.{Nests}
use Rattle.unit_graph.specs.declared.graph.Graph.{Graph}
use Rattle.unit_graph.specs.declared.graph.Graphs.{Graphs}
use Rattle.unit_graph.specs.declared.node.Unit.{Unit as Node}
use Rattle.call_contexts.specs.Around.{AreNearest, AreOwn, IsNearestBy, IsOwnBy}
use Rattle.call_contexts.specs.Layout.{HasGraph, HasNode, IsLaid, IsLayout, IsSpot}
use Rattle.call_contexts.specs.Programs.{IsProgram}
use Rattle.call_contexts.specs.declared.around.Rounds.{Rounds}
use Rattle.call_contexts.specs.declared.instances.Instances.{Instances}
use Rattle.call_contexts.specs.declared.layout.Layout.{Layout}

-- A program whose contexts are laid out.
pub record HasLayout (image : Image) (entry : ℕ) (graphs : Graphs) (nests : Nests) (layout : Layout) : Type 0 where
  pub program : IsProgram image entry graphs nests
  pub layout_is : IsLayout image entry graphs.graphs layout

-- They are those of some program; and what is said of each program that they are of.
abbrev pub IsLayoutOf : Graphs → Nests → Layout → Type 0
IsLayoutOf graphs nests layout = (image : Image) × (entry : ℕ) × HasLayout image entry graphs nests layout

abbrev pub OfLayout : Graphs → Nests → Layout → (said : Image → ℕ → Type 0) → Type 0
OfLayout graphs nests layout said = (image : Image) (entry : ℕ) → HasLayout image entry graphs nests layout → said image entry

-- The same where the loops aren't at hand.
abbrev pub IsLaidFor : Graphs → Layout → Type 0
IsLaidFor graphs layout = (image : Image) × (entry : ℕ) × (nests : Nests) × HasLayout image entry graphs nests layout

-- For each function the loops round its units.
pub record AreRounds (graphs : List Graph) (nests : List (List Loop)) (done : ℕ) (rounds : List Rounds) : Type 0 where
  pub count : length rounds ≡ done
  pub around : (position : ℕ) (graph : Graph) (loops : List Loop) (round : Rounds) → slice_get graphs position ≡ Some graph →
      slice_get nests position ≡ Some loops → slice_get rounds position ≡ Some round →
      AreNearest graph.units loops (length loops) round.around.items
  pub own : (position : ℕ) (graph : Graph) (loops : List Loop) (round : Rounds) → slice_get graphs position ≡ Some graph →
      slice_get nests position ≡ Some loops → slice_get rounds position ≡ Some round →
      AreOwn graph.units loops (length loops) round.own.items

-- A context with the graph and the loops of its function and the number of its first place.
pub record HasParts (graphs : List Graph) (nests : List (List Loop)) (layout : Layout) (context : ℕ) (graph : Graph)
    (loops : List Loop) (base : ℕ) : Type 0 where
  pub has : HasGraph graphs layout context graph
  pub looped : slice_get nests has.position ≡ Some loops
  pub begins : slice_get layout.bases.items context ≡ Some base

-- For each context how many loop instances the earlier ones have, and behind them how many all have: fewer than the
-- number of the next place.
pub record AreFirsts (graphs : List Graph) (nests : List (List Loop)) (layout : Layout) (done : ℕ) (firsts : List ℕ) : Type 0 where
  pub count : length firsts ≡ suc done
  pub first : slice_get firsts 0 ≡ Some 0
  pub next : (context first base : ℕ) (graph : Graph) (loops : List Loop) → context < done →
      HasParts graphs nests layout context graph loops base → slice_get firsts context ≡ Some first →
      slice_get firsts (suc context) ≡ Some (first + length loops)
  pub low : (context first base : ℕ) → slice_get firsts context ≡ Some first → slice_get layout.bases.items context ≡ Some base →
      first < base

-- The loops round the units of a program that is laid out, and the numbers of its contexts' loop instances.
pub record HasRounds (image : Image) (entry : ℕ) (graphs : Graphs) (nests : Nests) (layout : Layout) (rounds : List Rounds)
    (firsts : List ℕ) : Type 0 where
  pub laid : HasLayout image entry graphs nests layout
  pub rounds_are : AreRounds graphs.graphs nests.nests (length graphs.graphs) rounds
  pub firsts_are : AreFirsts graphs.graphs nests.nests layout (length layout.contexts.keys) firsts

-- They are those of some program, whatever its loops are; and what is said of each program that they are of.
abbrev pub AreRoundsOf : Graphs → Nests → Layout → List Rounds → (firsts : List ℕ) → Type 0
AreRoundsOf graphs nests layout rounds firsts =
    (image : Image) × (entry : ℕ) × HasRounds image entry graphs nests layout rounds firsts

abbrev pub AreRoundsFor : Graphs → Layout → List Rounds → (firsts : List ℕ) → Type 0
AreRoundsFor graphs layout rounds firsts =
    (image : Image) × (entry : ℕ) × (nests : Nests) × HasRounds image entry graphs nests layout rounds firsts

abbrev pub OfRounds : Graphs → Layout → List Rounds → (firsts : List ℕ) → (said : Nests → Type 0) → Type 0
OfRounds graphs layout rounds firsts said =
    (image : Image) (entry : ℕ) (nests : Nests) → HasRounds image entry graphs nests layout rounds firsts → said nests

-- The scope of what a loop of a context's function holds, or none of them: the loop's instance, or the scope round
-- the context.
abbrev pub scope_by : (first outer : ℕ) → Option ℕ → ℕ
scope_by first outer None = outer
scope_by first outer (Some at) = first + at + 1

-- The scope of the place of the call that made a context.
pub record IsScopeOfCall (graphs : List Graph) (layout : Layout) (scopes : List ℕ) (context outer : ℕ) : Type 0 where
  pub of : Context
  pub there : slice_get layout.contexts.keys context ≡ Some of
  pub position : ℕ
  pub number : ℕ
  pub node : Node
  pub spot : IsSpot graphs layout of.parent position node number
  pub site : node.address ≡ of.site
  pub is : item_at number scopes ≡ Some outer

-- The scope round a context: none round context 0, else that of its call.
abbrev pub IsRoundContext : List Graph → Layout → (scopes : List ℕ) → (context outer : ℕ) → Type 0
IsRoundContext graphs layout scopes context outer =
    ((context ≡ 0) × (outer ≡ 0)) ⊎ ((0 < context) × IsScopeOfCall graphs layout scopes context outer)

-- The scope of a unit's place in a context, by its own loop.
pub record IsScopeBy (loops : List Loop) (first outer address scope : ℕ) : Type 0 where
  pub found : Option ℕ
  pub own : IsOwnBy loops (length loops) address found
  pub is : scope ≡ scope_by first outer found

-- The scopes round the first contexts and those of their places.
pub record AreScopes (graphs : List Graph) (nests : List (List Loop)) (layout : Layout) (firsts : List ℕ) (done : ℕ)
    (outers scopes : List ℕ) : Type 0 where
  pub count : length outers ≡ done
  pub filled : slice_get layout.bases.items done ≡ Some (suc (length scopes))
  pub round : (context outer : ℕ) → slice_get outers context ≡ Some outer → IsRoundContext graphs layout scopes context outer
  pub each : (context first outer base position scope : ℕ) (graph : Graph) (loops : List Loop) (node : Node) →
      HasParts graphs nests layout context graph loops base → slice_get firsts context ≡ Some first →
      slice_get outers context ≡ Some outer → slice_get graph.units position ≡ Some node →
      item_at (base + position) scopes ≡ Some scope → IsScopeBy loops first outer node.address scope

-- The instance of a loop in a context: it begins at its header's place and has the loop's bound and the scope of the
-- innermost other loop that holds its header.
pub record IsInstanceBy (units : List Node) (loops : List Loop) (base first outer : ℕ) (one : Loop) (inst : LoopInst) : Type 0 where
  pub position : ℕ
  pub at : HasNode units one.header position
  pub header : inst.header ≡ base + position
  pub bound : inst.bound ≡ one.bound
  pub found : Option ℕ
  pub near : IsNearestBy loops (length loops) one.header found
  pub outer_is : inst.outer ≡ scope_by first outer found

-- The instances of a context's first loops, in their order.
pub record AreInstancesBy (units : List Node) (loops : List Loop) (base first outer done : ℕ) (made : List LoopInst) : Type 0 where
  pub count : length made ≡ done
  pub each : (position : ℕ) (inst : LoopInst) (one : Loop) → slice_get made position ≡ Some inst →
      slice_get loops position ≡ Some one → IsInstanceBy units loops base first outer one inst

-- Those instances were added behind others.
pub record AddsInstances (units : List Node) (loops : List Loop) (base first outer done : ℕ) (before later : List LoopInst) : Type 0 where
  pub made : List LoopInst
  pub behind : later ≡ before ++ made
  pub are : AreInstancesBy units loops base first outer done made

-- The instances of the first contexts: a context's stand behind those of the earlier ones.
pub record AreInstances (graphs : List Graph) (nests : List (List Loop)) (layout : Layout) (firsts outers : List ℕ) (done : ℕ)
    (instances : List LoopInst) : Type 0 where
  pub filled : slice_get firsts done ≡ Some (length instances)
  pub each : (context first outer base position : ℕ) (graph : Graph) (loops : List Loop) (inst : LoopInst) (one : Loop) →
      HasParts graphs nests layout context graph loops base → slice_get firsts context ≡ Some first →
      slice_get outers context ≡ Some outer → slice_get loops position ≡ Some one →
      slice_get instances (first + position) ≡ Some inst → IsInstanceBy graph.units loops base first outer one inst

-- A net has the contexts and the places of a layout, these loop instances, and these scopes of the places.
pub record HasScopes (graphs : List Graph) (layout : Layout) (made : Instances) (net : Net) : Type 0 where
  pub contexts : net.contexts ≡ layout.contexts.keys
  pub places : IsLaid graphs layout net.places
  pub loops : net.loops ≡ made.instances
  pub scopes : map (λ (place : Place). place.scope) net.places ≡ made.scopes.items
