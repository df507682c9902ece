-- The places of a laid out program, by the contexts and the addresses of their units.
use Rattle.std.specs.Prelude.{◌≡◌, ℕ, List}
use Rattle.elf_mips.specs.declared.image.Image.{Image}
use Rattle.unit_graph.specs.declared.graph.Graph.{Graph}
use Rattle.unit_graph.specs.declared.graph.Graphs.{Graphs}
use Rattle.unit_graph.specs.declared.node.Unit.{Unit as Node}
use Rattle.call_contexts.specs.Layout.{HasGraphs, IsLayout, IsSpot}
use Rattle.call_contexts.specs.declared.layout.Layout.{Layout}

-- The graphs of a program and the layout of its contexts.
pub record IsLaidProgram (image : Image) (entry : ℕ) (graphs : Graphs) (layout : Layout) : Type 0 where
  pub graphs_are : HasGraphs image entry graphs
  pub layout_is : IsLayout image entry graphs.graphs layout

abbrev pub IsOfProgram : Graphs → Layout → Type 0
IsOfProgram graphs layout = (image : Image) × (entry : ℕ) × IsLaidProgram image entry graphs layout

abbrev pub OfLaid : Graphs → Layout → (said : Image → ℕ → Type 0) → Type 0
OfLaid graphs layout said = (image : Image) (entry : ℕ) → IsLaidProgram image entry graphs layout → said image entry

-- The number is that of the place of the unit at an address in a context.
pub record IsNumberAt (graphs : List Graph) (layout : Layout) (context address number : ℕ) : Type 0 where
  pub position : ℕ
  pub node : Node
  pub spot : IsSpot graphs layout context position node number
  pub same : node.address ≡ address

-- The unit at an address in a context has a place.
abbrev pub HasNumber : List Graph → Layout → (context address : ℕ) → Type 0
HasNumber graphs layout context address = (number : ℕ) × IsNumberAt graphs layout context address number
