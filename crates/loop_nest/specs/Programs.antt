-- The loops of all functions of a program, and what is answered where they have a fault.
use Rattle.std.specs.Prelude.{◌≡◌, ℕ, ◌<◌, List, All, Contains, Option, Some, None}
use Rattle.std.specs.List.{AllZip}
use Rattle.elf_mips.specs.declared.image.Image.{Image}
use Rattle.loop_nest.specs.declared.find.Answer.{Answer}
use Rattle.loop_nest.specs.declared.find.Answer.TheVariants as answer
use Rattle.loop_nest.specs.declared.nest.Loop.{Loop}
use Rattle.loop_nest.specs.declared.nest.Nests.{Nests}
use Rattle.loop_nest.specs.Nests.{IsNest, TellsKind}
use Rattle.loop_nest.specs.Plans.{IsAnswer}
use Rattle.net_model.specs.declared.unit.CodeKind.{CodeKind}
use Rattle.net_model.specs.declared.unit.CodeKind.TheVariants.{Irreducible, NoBound}
use Rattle.net_model.specs.Functions.{IsFunction}
use Rattle.net_model.specs.Loops.{IsIrreducible, IsUnbounded}
use Rattle.unit_graph.specs.Firsts.{IsNoEarlier}
use Rattle.unit_graph.specs.declared.fault.CodeFault.{CodeFault}
use Rattle.unit_graph.specs.declared.fault.CodeFault.TheVariants.{Bad, Memory}
use Rattle.unit_graph.specs.declared.first.Offence.{Offence}
use Rattle.unit_graph.specs.declared.graph.Graph.{Graph}
use Rattle.unit_graph.specs.declared.graph.Graphs.{Graphs}

-- The loops of the function of a graph.
abbrev pub IsNestOf : Image → Graph → List Loop → Type 0
IsNestOf image graph loops = IsNest image graph.entry loops

-- For each graph the loops of its function, in the order of the graphs.
abbrev pub AreNests : Image → Graphs → Nests → Type 0
AreNests image graphs nests = AllZip (IsNestOf image) graphs.graphs nests.nests

-- In some function of the program the unit lies on a cycle that has no back arc.
pub record IsIrreducibleIn (image : Image) (entry address : ℕ) : Type 0 where
  pub function : ℕ
  pub is : IsFunction image entry function
  pub here : IsIrreducible image function address

-- In some function of the program the loop of the header has no bound.
pub record IsUnboundedIn (image : Image) (entry header : ℕ) : Type 0 where
  pub function : ℕ
  pub is : IsFunction image entry function
  pub here : IsUnbounded image function header

-- The least unit that lies on such a cycle.
pub record IsLeastIrreducible (image : Image) (entry place : ℕ) : Type 0 where
  pub here : IsIrreducibleIn image entry place
  pub least : (lesser : ℕ) → lesser < place → IsIrreducibleIn image entry lesser → ⊥

-- The least header of a loop without a bound, where no unit lies on such a cycle.
pub record IsLeastUnbounded (image : Image) (entry place : ℕ) : Type 0 where
  pub accepted : (address : ℕ) → IsIrreducibleIn image entry address → ⊥
  pub here : IsUnboundedIn image entry place
  pub least : (lesser : ℕ) → lesser < place → IsUnboundedIn image entry lesser → ⊥

-- What an error says of the loops; want of memory says nothing.
abbrev pub TellsKindIn : Image → (entry : ℕ) → CodeKind → (place : ℕ) → Type 0
TellsKindIn image entry Irreducible place = IsLeastIrreducible image entry place
TellsKindIn image entry NoBound place = IsLeastUnbounded image entry place
TellsKindIn image entry kind place = ⊥

abbrev pub TellsFault : Image → ℕ → CodeFault → Type 0
TellsFault image entry (Bad kind address) = TellsKindIn image entry kind address
TellsFault image entry Memory = Unit {0}

-- What is answered of a function is no fault that comes before the first one. Where there is no first one, it
-- is no fault at all.
abbrev pub Follows : Option Offence → Answer → Type 0
Follows first (answer.Loops loops) = Unit {0}
Follows None (answer.Fault kind place) = ⊥
Follows (Some offence) (answer.Fault kind place) = IsNoEarlier offence kind place

-- A function has an answer that follows the first fault.
pub record HasAnswer (image : Image) (first : Option Offence) (graph : Graph) : Type 0 where
  pub answer : Answer
  pub is : IsAnswer image graph.entry answer
  pub follows : Follows first answer

-- The first fault, if there is one, is that of one of the functions.
abbrev pub IsAmong : Image → Option Offence → List Graph → Type 0
IsAmong image None graphs = Unit {0}
IsAmong image (Some offence) graphs =
    (graph : Graph) × Contains graphs graph × TellsKind image graph.entry offence.kind offence.place

-- What was found of the loops of some functions: the first fault, and the loops where there is none.
pub record IsFoundIn (image : Image) (graphs : List Graph) (nests : List (List Loop)) (first : Option Offence) : Type 0 where
  pub each : All (HasAnswer image first) graphs
  pub among : IsAmong image first graphs
  pub nests_are : first ≡ None → AllZip (IsNestOf image) graphs nests
