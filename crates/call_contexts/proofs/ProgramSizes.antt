-- Totals along the calls of a program's graphs are its sizes.
use Rattle.std.proofs.Common.{◌≡◌, ℕ, ◌+◌, ◌<◌, inl, inr, List, [], ◌∷◌, length, map, get_or, slice_get, All, Some, sum_by, refl, sym, ap, subst, ◌∙◌, arith}
use Rattle.std.proofs.Math.ListN.{length-replicate}
use Rattle.std.proofs.lemmas.List.{length-map}
use Rattle.std.proofs.lemmas.List.Elements.{All-contains}
use Rattle.std.proofs.lemmas.List.Sums.{sum_by-cons}
use Rattle.std.proofs.lemmas.Option.{get_or_from_slice_get, slice_get-get_or, slice_get_within}
use Rattle.elf_mips.specs.declared.image.Image.{Image}
use Rattle.loop_nest.proofs.Ordered.{ordered-same}
use Rattle.mips_decode.specs.Transfer.{Call}
use Rattle.net_model.specs.Functions.{IsReached}
use Rattle.step_table.specs.Numbers.{number_of}
use Rattle.unit_graph.specs.Graphs.{AreGraphs, AreJust}
use Rattle.unit_graph.specs.declared.graph.Graph.{Graph}
use Rattle.unit_graph.specs.declared.graph.Graphs.{Graphs}
use Rattle.unit_graph.specs.declared.node.Unit.{Unit as Node}
use Rattle.call_contexts.specs.Counting.{AddsAlong, AreCallLists, IsGraphAt, call_of, ones_for, steps_in, steps_of, unit_counts}
use Rattle.call_contexts.specs.Sizes.{AddsUp, AreCallsOf, AreSizes, CountsUnits, IsCallAfter, IsCallOf}
use Rattle.call_contexts.specs.declared.calls.Called.{Called}
use Rattle.call_contexts.proofs.CallGraph.{called_are, list_of}
use Rattle.call_contexts.proofs.GraphCalls.{graph_units-are}
use Rattle.call_contexts.proofs.GraphFunctions.{first_graph, function_at, graph_in, place_in, place_in-is}
use Rattle.call_contexts.proofs.Places.{map_at}
use Rattle.call_contexts.proofs.Summing.{one_at}
use Rattle.call_contexts.proofs.Totals.{sums_same}

-- Sums over mapped lists.
sums_mapped : {S T : Type 0} (f : T → ℕ) (key : S → T) (items : List S) → sum_by f (map key items) ≡ sum_by (λ item. f (key item)) items
sums_mapped f key [] = refl
sums_mapped f key (item ∷ items) =
    omega (arith, sum_by-cons f (key item) (map key items), sum_by-cons (λ i. f (key i)) item items, sums_mapped f key items)

-- A function has one list of calls, and one list of units.
call_strict : (a b : Call) → IsCallAfter a b → IsCallAfter b a → ⊥
call_strict a b (inl less) (inl more) = omega (arith, less, more)
call_strict a b (inl less) (inr both) = omega (arith, less, both.0)
call_strict a b (inr both) (inl more) = omega (arith, both.0, more)
call_strict a b (inr both) (inr other) = omega (arith, both.1, other.1)

calls_once : (image : Image) (function : ℕ) (calls others : List Call) → AreCallsOf image function calls → AreCallsOf image function others → calls ≡ others
calls_once image function calls others are also =
    ordered-same IsCallAfter call_strict calls others are.rising also.rising
    (λ call there. also.whole call (All-contains (IsCallOf image function) calls call are.sound there))
    (λ call there. are.whole call (All-contains (IsCallOf image function) others call also.sound there))

just_once : (these : ℕ → Type 0) (xs ys : List ℕ) → AreJust these xs → AreJust these ys → xs ≡ ys
just_once these xs ys are also =
    ordered-same (λ (a b : ℕ). a < b) (λ x y less more. omega (arith, less, more)) xs ys are.rising also.rising
    (λ x there. also.whole x (are.sound x there)) (λ x there. are.whole x (also.sound x there))

-- A number for each function, by the position of its graph.
by_function : List Graph → (ℕ → ℕ) → ℕ → ℕ
by_function graphs value function = value (place_in graphs function)

by_function-is : (image : Image) (entry : ℕ) (graphs : Graphs) → AreGraphs image entry graphs → (value : ℕ → ℕ) (function position : ℕ) →
    IsGraphAt graphs.graphs function position → by_function graphs.graphs value function ≡ value position
unfolding by_function
by_function-is image entry graphs are value function position at = ap value (place_in-is image entry graphs are function position at)

-- The number of a program's function adds up along its calls.
adds_up : (image : Image) (entry : ℕ) (graphs : Graphs) → AreGraphs image entry graphs → (lists : List (List Called)) → AreCallLists graphs.graphs lists →
    (own : List ℕ) (total : ℕ → ℕ) → length own ≡ length lists → AddsAlong (steps_of lists) own total → (of : ℕ → ℕ) →
    ((function position : ℕ) → IsGraphAt graphs.graphs function position → of function ≡ number_of own position) →
    AddsUp image entry of (by_function graphs.graphs total)
adds_up image entry graphs are lists zip own total sized adds of same function calls is listed =
    by_position (function_at image entry graphs are function is)
  where
    targets : (position : ℕ) (at : IsGraphAt graphs.graphs function position) (called : List Called) → AreCallsOf image function (map call_of called) →
        All (λ (one : Called). IsGraphAt graphs.graphs one.target one.graph) called →
        sum_by (λ (call : Call). by_function graphs.graphs total call.target) calls ≡ sum_by total (steps_in called)
    targets position at called called_all placed =
        ap (λ (given : List Call). sum_by (λ (call : Call). by_function graphs.graphs total call.target) given) (calls_once image function calls (map call_of called) listed called_all)
        ∙ sums_mapped (λ (call : Call). by_function graphs.graphs total call.target) call_of called
        ∙ sums_same (λ (one : Called). by_function graphs.graphs total one.target) (λ (one : Called). total one.graph) called
        (λ k d inside. by_function-is image entry graphs are total (get_or called k d).target (get_or called k d).graph (placed k d inside))
        ∙ sym (sums_mapped total (λ (one : Called). one.graph) called)

    by_list : (position : ℕ) (at : IsGraphAt graphs.graphs function position) → (called : List Called) → slice_get lists position ≡ Some called →
        AreCallsOf image function (map call_of called) → All (λ (one : Called). IsGraphAt graphs.graphs one.target one.graph) called →
        by_function graphs.graphs total function ≡ of function + sum_by (λ (call : Call). by_function graphs.graphs total call.target) calls
    by_list position at called there called_all placed =
        let here = by_function-is image entry graphs are total function position at in
        let along = adds position (number_of own position) (steps_in called) (map_at steps_in lists position called there)
        (slice_get-get_or own position 0 (omega (arith, sized, slice_get_within lists position called there))) in
        omega (arith, here, along, same function position at, targets position at called called_all placed)

    by_position : (position : ℕ) × IsGraphAt graphs.graphs function position →
        by_function graphs.graphs total function ≡ of function + sum_by (λ (call : Call). by_function graphs.graphs total call.target) calls
    by_position (position, at) =
        let (called, has) = list_of graphs.graphs lists zip position at.graph at.there in
        by_list position at called has.listed
        (subst (λ (f : ℕ). AreCallsOf image f (map call_of called)) at.same (called_are image entry graphs are lists position at.graph called has)) has.are.placed

-- How many units a function reaches.
units_at : (graphs : List Graph) (function position : ℕ) (at : IsGraphAt graphs function position) → number_of (unit_counts graphs) position ≡ length at.graph.units
units_at graphs function position at =
    get_or_from_slice_get (unit_counts graphs) position (length at.graph.units) 0 (map_at (λ (graph : Graph). length graph.units) graphs position at.graph at.there)

counts_units : (image : Image) (entry : ℕ) (graphs : Graphs) → AreGraphs image entry graphs → CountsUnits image entry (by_function graphs.graphs (number_of (unit_counts graphs.graphs)))
counts_units image entry graphs are function addresses is listed =
    let (position, at) = function_at image entry graphs are function is in
    let units = graph_units-are image at.graph.entry at.graph (graph_in image entry graphs are position at.graph at.there).is in
    let one : addresses ≡ map (λ (n : Node). n.address) at.graph.units =
    just_once (IsReached image function) addresses (map (λ (n : Node). n.address) at.graph.units) listed
    (subst (λ (f : ℕ). AreJust (IsReached image f) (map (λ (n : Node). n.address) at.graph.units)) at.same units) in
    by_function-is image entry graphs are (number_of (unit_counts graphs.graphs)) function position at
    ∙ units_at graphs.graphs function position at
    ∙ sym (length-map at.graph.units (λ (n : Node). n.address))
    ∙ sym (ap (λ (given : List ℕ). length given) one)

-- The sizes of a program are the totals of its first graph.
pub sizes_are : (image : Image) (entry : ℕ) (graphs : Graphs) → AreGraphs image entry graphs → (lists : List (List Called)) → AreCallLists graphs.graphs lists →
    length lists ≡ length graphs.graphs → (contexts places : ℕ → ℕ) → AddsAlong (steps_of lists) (ones_for lists) contexts →
    AddsAlong (steps_of lists) (unit_counts graphs.graphs) places → AreSizes image entry (contexts 0) (places 0)
sizes_are image entry graphs are lists zip count contexts places contexts_add places_add = record {
  contexts_of = by_function graphs.graphs contexts;
  units_of = by_function graphs.graphs (number_of (unit_counts graphs.graphs));
  places_of = by_function graphs.graphs places;
  units = counts_units image entry graphs are;
  contexts_add = adds_up image entry graphs are lists zip (ones_for lists) contexts (length-replicate (length lists) 1) contexts_add (λ function. 1)
      (λ function position at. sym (one_at (length lists) position (omega (arith, count, slice_get_within graphs.graphs position at.graph at.there))));
  places_add = adds_up image entry graphs are lists zip (unit_counts graphs.graphs) places
      (length-map graphs.graphs (λ (graph : Graph). length graph.units) ∙ sym count) places_add
      (by_function graphs.graphs (number_of (unit_counts graphs.graphs)))
      (λ function position at. by_function-is image entry graphs are (number_of (unit_counts graphs.graphs)) function position at);
  contexts_are = sym (by_function-is image entry graphs are contexts entry 0 first);
  places_are = sym (by_function-is image entry graphs are places entry 0 first);
}
  where
    first : IsGraphAt graphs.graphs entry 0
    first = record { graph = are.first; there = first_graph image entry graphs are; same = are.begins }
