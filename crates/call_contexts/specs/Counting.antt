-- How the contexts and places of a program are counted: each function's from those of the functions that it calls.
use Rattle.std.specs.Prelude.{◌≡◌, ℕ, ◌<◌, ◌+◌, ◌^◌, ◌∷◌, List, length, map, min, replicate, sum_by, All, AllPairs, Contains, Some, slice_get}
use Rattle.std.specs.List.{AllZip, flat_map}
use Rattle.mips_decode.specs.Transfer.{Call}
use Rattle.step_table.specs.Cycles.{IsCyclic}
use Rattle.step_table.specs.Table.{IsStep}
use Rattle.unit_graph.specs.declared.graph.Graph.{Graph}
use Rattle.unit_graph.specs.declared.node.Unit.{Unit as Node}
use Rattle.call_contexts.specs.declared.calls.Called.{Called}

-- A first graph, and behind it others by their rising entries.
pub record AreListed (graphs : List Graph) : Type 0 where
  pub first : Graph
  pub others : List Graph
  pub parts : graphs ≡ first ∷ others
  pub rising : AllPairs (λ (g h : Graph). g.entry < h.entry) others

-- A function has a graph.
abbrev pub IsKnown : List Graph → (function : ℕ) → Type 0
IsKnown graphs function = Contains (map (λ (graph : Graph). graph.entry) graphs) function

-- The graph at a position is that of the function.
pub record IsGraphAt (graphs : List Graph) (function position : ℕ) : Type 0 where
  pub graph : Graph
  pub there : slice_get graphs position ≡ Some graph
  pub same : graph.entry ≡ function

-- The calls of a unit, by the rising entries of the called functions, and those of a graph, by the rising sites.
abbrev pub calls_at : Node → List Call
calls_at node = map (λ callee. record { site = node.address; target = callee }) node.calls

abbrev pub calls_in : Graph → List Call
calls_in graph = flat_map calls_at graph.units

-- These are the given calls, each with the position of the called function's graph.
abbrev pub call_of : Called → Call
call_of called = record { site = called.site; target = called.target }

pub record AreCalled (graphs : List Graph) (calls : List Call) (called : List Called) : Type 0 where
  pub same : map call_of called ≡ calls
  pub placed : All (λ (one : Called). IsGraphAt graphs one.target one.graph) called

-- For each graph its calls.
abbrev pub AreCallLists : List Graph → List (List Called) → Type 0
AreCallLists graphs lists = AllZip (λ (graph : Graph). AreCalled graphs (calls_in graph)) graphs lists

-- For each graph the positions of the graphs that it calls.
abbrev pub steps_in : List Called → List ℕ
steps_in called = map (λ (one : Called). one.graph) called

abbrev pub steps_of : List (List Called) → List (List ℕ)
steps_of lists = map steps_in lists

-- A position stands in an order before a place.
pub record StandsBefore (order : List ℕ) (position place : ℕ) : Type 0 where
  pub earlier : ℕ
  pub before : earlier < place
  pub there : slice_get order earlier ≡ Some position

-- Each position of a table stands in the order, behind those to which its steps go.
pub record IsFinished (table : List (List ℕ)) (order : List ℕ) : Type 0 where
  pub within : All (λ position. position < length table) order
  pub whole : (position : ℕ) → position < length table → Contains order position
  pub behind : (place position to : ℕ) → slice_get order place ≡ Some position → IsStep table position to →
      StandsBefore order to place

-- A number for each position: its own, and for each of its steps that of the position to which it goes.
abbrev pub AddsAlong : (table : List (List ℕ)) (own : List ℕ) (total : ℕ → ℕ) → Type 0
AddsAlong table own total = (position first : ℕ) (steps : List ℕ) → slice_get table position ≡ Some steps →
    slice_get own position ≡ Some first → total position ≡ first + sum_by total steps

-- What is told of numbers: each at most 2^63.
abbrev pub told_of : ℕ → ℕ
told_of number = min number (2 ^ 63)

abbrev pub AreToldAll : (table : List (List ℕ)) (own told : List ℕ) → Type 0
AreToldAll table own told = (total : ℕ → ℕ) → AddsAlong table own total → (position : ℕ) → position < length table →
    slice_get told position ≡ Some (told_of (total position))

-- For each graph the number of its units, and for each list of calls a one.
abbrev pub unit_counts : List Graph → List ℕ
unit_counts graphs = map (λ (graph : Graph). length graph.units) graphs

abbrev pub ones_for : List (List Called) → List ℕ
ones_for lists = replicate (length lists) 1

-- No steps lead from a position back to it.
abbrev pub IsAcyclic : List (List ℕ) → Type 0
IsAcyclic table = (position : ℕ) → IsCyclic table position → ⊥

-- The number of the first position.
pub record IsTotalOfFirst (table : List (List ℕ)) (own : List ℕ) (number : ℕ) : Type 0 where
  pub total : ℕ → ℕ
  pub adds : AddsAlong table own total
  pub same : number ≡ total 0

-- The number of the first position is told.
pub record IsToldFirst (table : List (List ℕ)) (own : List ℕ) (told : ℕ) : Type 0 where
  pub total : ℕ → ℕ
  pub adds : AddsAlong table own total
  pub same : told ≡ told_of (total 0)
