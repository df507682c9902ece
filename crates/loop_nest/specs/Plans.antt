-- A function's units by their positions, and what is found of its loops.
use Rattle.std.specs.Prelude.{◌≡◌, ℕ, ◌<◌, List, length, map, AllPairs, Option, Some, slice_get}
use Rattle.elf_mips.specs.declared.image.Image.{Image}
use Rattle.unit_graph.specs.declared.graph.Graph.{Graph}
use Rattle.unit_graph.specs.declared.node.Unit.{Unit as Node}
use Rattle.loop_nest.specs.declared.find.Answer.{Answer}
use Rattle.loop_nest.specs.declared.find.Answer.TheVariants as answer
use Rattle.loop_nest.specs.declared.listing.Listed.{Listed as List_of_loops}
use Rattle.loop_nest.specs.declared.plan.Found.{Found}
use Rattle.loop_nest.specs.declared.plan.Found.TheVariants.{Irregular, Regular}
use Rattle.loop_nest.specs.declared.plan.Plan.{Plan}
use Rattle.loop_nest.specs.Arcs.{AreBacks, AreKept, Crosses, HaveBacks}
use Rattle.loop_nest.specs.Bodies.{AreInner}
use Rattle.loop_nest.specs.Bounds.{AreBounds}
use Rattle.loop_nest.specs.Cycles.{IsFirstIrregular}
use Rattle.loop_nest.specs.Listing.{IsListed}
use Rattle.loop_nest.specs.Nests.{IsNest, TellsKind}
use Rattle.loop_nest.specs.Ranks.{AreRanks}
use Rattle.step_table.specs.Table.{AreMet, IsReverse, IsWithin}
use Rattle.loop_nest.specs.Table.{IsTableOf}

-- The plan of a graph.
pub record IsPlan (graph : Graph) (plan : Plan) : Type 0 where
  pub are : plan.addresses.items ≡ map (λ (node : Node). node.address) graph.units
  pub rising : AllPairs (λ (a b : ℕ). a < b) plan.addresses.items
  pub follows : IsTableOf plan.addresses.items graph.units plan.table.items
  pub count : length plan.table.items ≡ length plan.addresses.items
  pub within : IsWithin plan.table.items
  pub reversed : IsReverse plan.table.items plan.reverse.items
  pub behind : IsWithin plan.reverse.items
  pub begins : slice_get plan.addresses.items plan.entry ≡ Some graph.entry
  pub met : AreMet plan.table.items plan.entry

-- All back arcs are among these steps, which are listed by their headers, and some step crosses.
pub record IsCrossed (plan : Plan) (steps : List (List ℕ)) : Type 0 where
  pub ranks : List ℕ
  pub within : IsWithin plan.table.items
  pub begins : plan.entry < length plan.table.items
  pub ranked : AreRanks plan.table.items plan.entry ranks
  pub reversed : IsReverse plan.table.items plan.reverse.items
  pub behind : IsWithin plan.reverse.items
  pub listed : IsWithin steps
  pub backs : HaveBacks plan.table.items plan.entry steps
  pub from : ℕ
  pub header : ℕ
  pub crosses : Crosses plan.table.items plan.entry ranks from header

-- Some step that isn't a back arc closes a cycle: the least position of such.
pub record IsIrregularAt (plan : Plan) (position : ℕ) : Type 0 where
  pub sources : List (List ℕ)
  pub are : AreBacks plan.table.items plan.entry sources
  pub first : IsFirstIrregular plan.table.items sources (Some position)

-- All steps but the back arcs go to lesser ranks, and the loops are listed.
pub record AreRegular (graph : Graph) (plan : Plan) (recorded : ℕ → Option ℕ) (loops : List_of_loops) : Type 0 where
  pub ranks : List ℕ
  pub sources : List (List ℕ)
  pub innermost : List (Option ℕ)
  pub bounds : List (Option ℕ)
  pub ranked : AreRanks plan.table.items plan.entry ranks
  pub are : AreBacks plan.table.items plan.entry sources
  pub kept : AreKept plan.table.items plan.entry ranks
  pub inner : AreInner plan.reverse.items sources ranks (length plan.reverse.items) innermost
  pub bounded : AreBounds graph.units innermost recorded bounds
  pub listed : IsListed plan.addresses.items plan.reverse.items sources bounds loops

-- What is found of the loops of a graph, by the bounds that are recorded.
abbrev pub IsFound : Graph → Plan → (recorded : ℕ → Option ℕ) → Found → Type 0
IsFound graph plan recorded (Irregular position) = IsIrregularAt plan position
IsFound graph plan recorded (Regular listed) = AreRegular graph plan recorded listed

-- The loops of a function, or their fault.
abbrev pub IsAnswer : Image → (entry : ℕ) → Answer → Type 0
IsAnswer image entry (answer.Loops loops) = IsNest image entry loops
IsAnswer image entry (answer.Fault kind address) = TellsKind image entry kind address
