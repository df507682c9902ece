-- How the contexts of a program are laid out: the graph of each context's function, and the numbers of its places.
use Rattle.std.specs.Prelude.{◌≡◌, ℕ, suc, ◌+◌, ◌<◌, ◌≤◌, List, length, Some, slice_get}
use Rattle.elf_mips.specs.declared.image.Image.{Image}
use Rattle.flow_net.specs.Numbers.{item_at}
use Rattle.flow_net.specs.declared.net.Context.{Context}
use Rattle.flow_net.specs.declared.net.Place.{Place}
use Rattle.net_model.specs.Contexts.{AreContexts, made_by}
use Rattle.net_model.specs.Faults.{HasNoFault}
use Rattle.unit_graph.specs.Graphs.{AreGraphs}
use Rattle.unit_graph.specs.declared.graph.Graph.{Graph}
use Rattle.unit_graph.specs.declared.graph.Graphs.{Graphs}
use Rattle.unit_graph.specs.declared.node.Unit.{Unit as Node}
use Rattle.call_contexts.specs.Sizes.{most_contexts, most_places}
use Rattle.call_contexts.specs.declared.layout.Layout.{Layout}

-- The graphs of the functions of a program whose code has no fault.
pub record HasGraphs (image : Image) (entry : ℕ) (graphs : Graphs) : Type 0 where
  pub graphs_are : AreGraphs image entry graphs
  pub faultless : HasNoFault image entry

-- They are the graphs of some program; and what is said of each program that has them.
abbrev pub HaveProgram : Graphs → Type 0
HaveProgram graphs = (image : Image) × (entry : ℕ) × HasGraphs image entry graphs

abbrev pub OfGraphs : Graphs → (said : Image → ℕ → Type 0) → Type 0
OfGraphs graphs said = (image : Image) (entry : ℕ) → HasGraphs image entry graphs → said image entry

-- The node at a position of a list stands at the address.
pub record HasNode (nodes : List Node) (address position : ℕ) : Type 0 where
  pub node : Node
  pub there : slice_get nodes position ≡ Some node
  pub same : node.address ≡ address

-- A further context of this number is made by a call.
pub record IsMadeAs (contexts : List Context) (parent site callee number : ℕ) : Type 0 where
  pub later : 0 < number
  pub there : slice_get contexts number ≡ Some (made_by parent site callee)

-- The graph of a context's function.
pub record HasGraph (graphs : List Graph) (layout : Layout) (context : ℕ) (graph : Graph) : Type 0 where
  pub of : Context
  pub there : slice_get layout.contexts.keys context ≡ Some of
  pub position : ℕ
  pub listed : slice_get layout.functions.items context ≡ Some position
  pub is : slice_get graphs position ≡ Some graph
  pub same : graph.entry ≡ of.target

-- Each context has the graph of its function, and its places have numbers from its base on: the first base is 1,
-- each context has as many places as its graph has units, and the next base follows them.
pub record IsLaidOut (graphs : List Graph) (layout : Layout) : Type 0 where
  pub functions : length layout.functions.items ≡ length layout.contexts.keys
  pub bases : length layout.bases.items ≡ suc (length layout.contexts.keys)
  pub each : (context : ℕ) → context < length layout.contexts.keys → (graph : Graph) × HasGraph graphs layout context graph
  pub first : slice_get layout.bases.items 0 ≡ Some 1
  pub next : (context base : ℕ) (graph : Graph) → HasGraph graphs layout context graph →
      slice_get layout.bases.items context ≡ Some base → slice_get layout.bases.items (suc context) ≡ Some (base + length graph.units)
  pub few_contexts : length layout.contexts.keys ≤ most_contexts
  pub few_places : (context base : ℕ) → slice_get layout.bases.items context ≡ Some base → base ≤ most_places + 1

-- The contexts of a program, laid out.
pub record IsLayout (image : Image) (entry : ℕ) (graphs : List Graph) (layout : Layout) : Type 0 where
  pub contexts : AreContexts image entry layout.contexts.keys
  pub laid : IsLaidOut graphs layout

-- The place of a number is that of the node at a position of a context's graph.
pub record IsSpot (graphs : List Graph) (layout : Layout) (context position : ℕ) (node : Node) (number : ℕ) : Type 0 where
  pub graph : Graph
  pub has : HasGraph graphs layout context graph
  pub there : slice_get graph.units position ≡ Some node
  pub base : ℕ
  pub begins : slice_get layout.bases.items context ≡ Some base
  pub counted : number ≡ base + position

-- The place of a number is that of a spot.
pub record IsPlaced (graphs : List Graph) (layout : Layout) (number : ℕ) (place : Place) : Type 0 where
  pub position : ℕ
  pub node : Node
  pub spot : IsSpot graphs layout place.context position node number
  pub same : place.address ≡ node.address

-- The number has a place in the context at the address.
pub record HasPlace (places : List Place) (number context address : ℕ) : Type 0 where
  pub place : Place
  pub there : item_at number places ≡ Some place
  pub within : place.context ≡ context
  pub same : place.address ≡ address

-- These places are those of a layout: each one is that of a spot, and each spot has its place.
pub record IsLaid (graphs : List Graph) (layout : Layout) (places : List Place) : Type 0 where
  pub each : (number : ℕ) (place : Place) → item_at number places ≡ Some place → IsPlaced graphs layout number place
  pub whole : (context position number : ℕ) (node : Node) → IsSpot graphs layout context position node number →
      HasPlace places number context node.address
