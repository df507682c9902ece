-- The graphs of a program's functions, and what is answered where its code has a fault.
use Rattle.std.specs.Prelude.{◌≡◌, ℕ, ◌<◌, List, ◌∷◌, map, All, AllPairs, Contains, is_some}
use Rattle.std.specs.List.{list_any}
use Rattle.elf_mips.specs.declared.image.Image.{Image}
use Rattle.net_model.specs.declared.unit.CodeUnit.{CodeUnit}
use Rattle.net_model.specs.declared.unit.Content.TheVariants.{Unit as Stands}
use Rattle.net_model.specs.Faults.{IsFirstFault}
use Rattle.net_model.specs.Functions.{CallsAt, GoesOn, IsFunction, IsReached}
use Rattle.net_model.specs.Onward.{is_link_passed, load_of, returns}
use Rattle.net_model.specs.Targets.{unit_at}
use Rattle.unit_graph.specs.declared.fault.CodeFault.{CodeFault}
use Rattle.unit_graph.specs.declared.fault.CodeFault.TheVariants.{Bad, Memory}
use Rattle.unit_graph.specs.declared.node.Unit.{Unit as Node}
use Rattle.unit_graph.specs.declared.graph.Graph.{Graph}
use Rattle.unit_graph.specs.declared.graph.Graphs.{Graphs}

-- Just these numbers, rising, each once.
pub record AreJust (these : ℕ → Type 0) (listed : List ℕ) : Type 0 where
  pub rising : AllPairs (λ (a b : ℕ). a < b) listed
  pub sound : (x : ℕ) → Contains listed x → these x
  pub whole : (x : ℕ) → these x → Contains listed x

-- What a node of the graph says of the unit at its address.
pub record Describes (image : Image) (node : Node) (unit : CodeUnit) : Type 0 where
  pub slot : node.slot ≡ is_some unit.slot
  pub returns : node.returns ≡ returns unit
  pub skips : node.skips ≡ is_link_passed unit.instr
  pub load : node.load ≡ load_of unit node.address
  pub onward : AreJust (GoesOn image node.address) node.onward
  pub calls : AreJust (CallsAt image node.address) node.calls

-- A node stands for the unit at an address.
pub record IsNodeAt (image : Image) (address : ℕ) (node : Node) : Type 0 where
  pub same : node.address ≡ address
  pub unit : CodeUnit
  pub stands : unit_at image node.address ≡ Stands unit
  pub described : Describes image node unit

-- A node stands for the unit at its address, which the function reaches.
pub record IsNode (image : Image) (function : ℕ) (node : Node) : Type 0 where
  pub reached : IsReached image function node.address
  pub unit : CodeUnit
  pub stands : unit_at image node.address ≡ Stands unit
  pub described : Describes image node unit

-- The graph of a function: a node for each address that it reaches, by rising addresses.
pub record IsGraph (image : Image) (function : ℕ) (graph : Graph) : Type 0 where
  pub begins : graph.entry ≡ function
  pub rising : AllPairs (λ (a b : Node). a.address < b.address) graph.units
  pub nodes : All (IsNode image function) graph.units
  pub whole : (address : ℕ) → IsReached image function address →
      Contains (map (λ (node : Node). node.address) graph.units) address
  pub returning : graph.can_return ≡ list_any (λ (node : Node). node.returns) graph.units

-- There are an image and a function whose graph it is.
abbrev pub HasImage : Graph → Type 0
HasImage graph = (image : Image) × (function : ℕ) × IsGraph image function graph

-- What is said of each image and function whose graph it is.
abbrev pub OfImage : Graph → (said : Image → ℕ → Type 0) → Type 0
OfImage graph said = (image : Image) (function : ℕ) → IsGraph image function graph → said image function

-- The same of graphs that all are of one image, each of the function of its entry.
abbrev pub HaveImage : List Graph → Type 0
HaveImage graphs = (image : Image) × All (λ (g : Graph). IsGraph image g.entry g) graphs

abbrev pub OfTheirImage : List Graph → (said : Image → Type 0) → Type 0
OfTheirImage graphs said = (image : Image) → All (λ (g : Graph). IsGraph image g.entry g) graphs → said image

-- The graph of a function of the program.
pub record IsGraphIn (image : Image) (entry : ℕ) (graph : Graph) : Type 0 where
  pub function : IsFunction image entry graph.entry
  pub is : IsGraph image graph.entry graph

-- The graphs of a program's functions: the entry's first, the others by their rising entries.
pub record AreGraphs (image : Image) (entry : ℕ) (graphs : Graphs) : Type 0 where
  pub first : Graph
  pub others : List Graph
  pub parts : graphs.graphs ≡ first ∷ others
  pub begins : first.entry ≡ entry
  pub rising : AllPairs (λ (g h : Graph). g.entry < h.entry) others
  pub apart : All (λ (g : Graph). g.entry ≡ entry → ⊥) others
  pub each : All (IsGraphIn image entry) graphs.graphs
  pub whole : (function : ℕ) → IsFunction image entry function →
      Contains (map (λ (g : Graph). g.entry) graphs.graphs) function

-- What an error says of the code; want of memory says nothing.
abbrev pub TellsFault : Image → ℕ → CodeFault → Type 0
TellsFault image entry (Bad kind address) = IsFirstFault image entry kind address
TellsFault image entry Memory = Unit {0}
