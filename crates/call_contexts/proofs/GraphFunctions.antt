-- The functions of a program and their graphs, by their positions.
use Rattle.std.proofs.Common.{◌≡◌, ◌==◌, ℕ, zero, suc, ◌<◌, Bool, true, false, List, ◌∷◌, length, map, get_or, slice_get, All, AllPairs, Some, refl, sym, ap, subst, ◌∙◌, arith}
use Rattle.std.specs.List.{position_or_len}
use Rattle.std.proofs.lemmas.Bool.Decides.{Decides-eqb}
use Rattle.std.proofs.lemmas.List.Sums.{position_or_len_is}
use Rattle.std.proofs.lemmas.List.Elements.{All-contains}
use Rattle.std.proofs.lemmas.Option.{get_or_from_slice_get, same_Some, slice_get-get_or, slice_get_within}
use Rattle.elf_mips.specs.declared.image.Image.{Image}
use Rattle.net_model.specs.Functions.{IsFunction}
use Rattle.step_table.proofs.Positions.{contains_at, place_of}
use Rattle.unit_graph.specs.Graphs.{AreGraphs, IsGraphIn}
use Rattle.unit_graph.specs.declared.graph.Graph.{Graph}
use Rattle.unit_graph.specs.declared.graph.Graphs.{Graphs}
use Rattle.call_contexts.specs.Counting.{AreListed, IsGraphAt}
use Rattle.call_contexts.proofs.GraphPlaces.{entry_of}
use Rattle.call_contexts.proofs.Places.{mapped_at, pair_at}

pub listed_graphs : (image : Image) (entry : ℕ) (graphs : Graphs) → AreGraphs image entry graphs → AreListed graphs.graphs
listed_graphs image entry graphs are = record { first = are.first; others = are.others; parts = are.parts; rising = are.rising }

-- The graph at a position is that of a function of the program.
pub graph_in : (image : Image) (entry : ℕ) (graphs : Graphs) → AreGraphs image entry graphs → (position : ℕ) (graph : Graph) →
    slice_get graphs.graphs position ≡ Some graph → IsGraphIn image entry graph
graph_in image entry graphs are position graph there =
    All-contains (IsGraphIn image entry) graphs.graphs graph are.each (contains_at graphs.graphs position graph there)

-- Each function has a graph at some position.
pub function_at : (image : Image) (entry : ℕ) (graphs : Graphs) → AreGraphs image entry graphs → (function : ℕ) → IsFunction image entry function →
    (position : ℕ) × IsGraphAt graphs.graphs function position
function_at image entry graphs are function is =
    let (position, listed) = place_of (map entry_of graphs.graphs) function (are.whole function is) in
    let (graph, there, same) = mapped_at entry_of graphs.graphs position function listed in
    (position, record { graph = graph; there = there; same = same })

-- The graph of the entry function is the first.
pub first_graph : (image : Image) (entry : ℕ) (graphs : Graphs) (are : AreGraphs image entry graphs) → slice_get graphs.graphs 0 ≡ Some are.first
first_graph image entry graphs are = ap (λ (gs : List Graph). slice_get gs 0) are.parts

-- Graphs at different positions are those of different functions.
apart_parts : (first : Graph) (others : List Graph) → AllPairs (λ (g h : Graph). entry_of g < entry_of h) others → All (λ (g : Graph). entry_of g ≡ entry_of first → ⊥) others →
    (i j : ℕ) (a b : Graph) → i < j → slice_get (first ∷ others) i ≡ Some a → slice_get (first ∷ others) j ≡ Some b → entry_of a ≡ entry_of b → ⊥
apart_parts first others rising apart i zero a b less one other same = omega (arith, less)
apart_parts first others rising apart zero (suc j) a b less one other same =
    apart_one (get_or_from_slice_get others j b b other) (apart j b (slice_get_within others j b other))
  where
    apart_one : get_or others j b ≡ b → (entry_of (get_or others j b) ≡ entry_of first → ⊥) → ⊥
    apart_one at differ = differ (ap entry_of at ∙ sym same ∙ sym (ap entry_of (same_Some first a one)))
apart_parts first others rising apart (suc i) (suc j) a b less one other same =
    omega (arith, same, pair_at (λ (g h : Graph). entry_of g < entry_of h) others rising i j a b (omega (arith, less)) one other)

pub graphs_apart : (image : Image) (entry : ℕ) (graphs : Graphs) → AreGraphs image entry graphs → (i j : ℕ) (a b : Graph) → i < j →
    slice_get graphs.graphs i ≡ Some a → slice_get graphs.graphs j ≡ Some b → entry_of a ≡ entry_of b → ⊥
graphs_apart image entry graphs are i j a b less one other =
    apart_parts are.first are.others are.rising
    (λ k d inside same. are.apart k d inside (same ∙ are.begins)) i j a b less
    (subst (λ (gs : List Graph). slice_get gs i ≡ Some a) are.parts one) (subst (λ (gs : List Graph). slice_get gs j ≡ Some b) are.parts other)

-- The position of a function's graph.
pub place_in : List Graph → (function : ℕ) → ℕ
place_in graphs function = position_or_len (λ (graph : Graph). entry_of graph == function) graphs

other_entry : (graph : Graph) (function : ℕ) → (entry_of graph ≡ function → ⊥) → (entry_of graph == function) ≡ false
other_entry graph function differ = by_test (entry_of graph == function) refl
  where
    by_test : (b : Bool) → (entry_of graph == function) ≡ b → b ≡ false
    by_test true e = absurd (differ ((Decides-eqb (entry_of graph) function).0 e))
    by_test false e = refl

pub place_in-is : (image : Image) (entry : ℕ) (graphs : Graphs) → AreGraphs image entry graphs → (function position : ℕ) →
    IsGraphAt graphs.graphs function position → place_in graphs.graphs function ≡ position
unfolding place_in
place_in-is image entry graphs are function position at =
    position_or_len_is (λ (graph : Graph). entry_of graph == function) graphs.graphs position at.graph
    (omega (arith, within)) before (λ inside. (Decides-eqb (entry_of (get_or graphs.graphs position at.graph)) function).1 here)
  where
    within : position < length graphs.graphs
    within = slice_get_within graphs.graphs position at.graph at.there

    here : entry_of (get_or graphs.graphs position at.graph) ≡ function
    here = ap entry_of (get_or_from_slice_get graphs.graphs position at.graph at.graph at.there) ∙ at.same

    before : (k : ℕ) → k < position → (entry_of (get_or graphs.graphs k at.graph) == function) ≡ false
    before k less = other_entry (get_or graphs.graphs k at.graph) function (λ same.
        graphs_apart image entry graphs are k position (get_or graphs.graphs k at.graph) at.graph less
        (slice_get-get_or graphs.graphs k at.graph (omega (arith, less, within))) at.there (same ∙ sym at.same))

-- The first graph, as it is read.
pub first_read : (image : Image) (entry : ℕ) (graphs : Graphs) (are : AreGraphs image entry graphs) (given : List Graph) (d : Graph) → given ≡ graphs.graphs →
    get_or given 0 d ≡ are.first
first_read image entry graphs are given d same =
    ap (λ (gs : List Graph). get_or gs 0 d) same ∙ get_or_from_slice_get graphs.graphs 0 are.first d (first_graph image entry graphs are)
