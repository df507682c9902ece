-- The lists of calls of a program's graphs: their order, and that no steps lead back.
use Rattle.std.proofs.Common.{◌≡◌, ℕ, List, [], ◌∷◌, ◌++◌, length, map, get_or, slice_get, All, Contains, Some, refl, sym, ap, subst, ◌∙◌, arith}
use Rattle.std.proofs.lemmas.List.{length-map}
use Rattle.std.proofs.lemmas.List.Elements.{All-contains, Contains-get_or}
use Rattle.std.proofs.lemmas.Option.{get_or_from_slice_get, same_Some, slice_get-get_or, slice_get_within}
use Rattle.elf_mips.specs.declared.image.Image.{Image}
use Rattle.net_model.specs.declared.unit.CodeKind.TheVariants.{Recursion}
use Rattle.net_model.specs.Faults.{recursive}
use Rattle.net_model.specs.Functions.{Calls, IsCallWay, IsFunction, further, main}
use Rattle.step_table.proofs.Meeting.{a_step}
use Rattle.step_table.proofs.Positions.{contains_at, place_of}
use Rattle.step_table.specs.Table.{IsMet, IsStep, IsWithin}
use Rattle.unit_graph.specs.Graphs.{AreGraphs, IsGraphIn, IsNode}
use Rattle.unit_graph.specs.declared.graph.Graph.{Graph}
use Rattle.unit_graph.specs.declared.graph.Graphs.{Graphs}
use Rattle.unit_graph.specs.declared.node.Unit.{Unit as Node}
use Rattle.call_contexts.specs.Counting.{AreCallLists, AreCalled, IsAcyclic, IsGraphAt, IsKnown, call_of, calls_in, steps_in, steps_of}
use Rattle.call_contexts.specs.Expansion.{RiseCalls}
use Rattle.call_contexts.specs.Layout.{HasGraphs}
use Rattle.call_contexts.specs.Sizes.{AreCallsOf, IsCallAfter, IsCallOf}
use Rattle.call_contexts.specs.declared.calls.Called.{Called}
use Rattle.call_contexts.proofs.GraphCalls.{graph_calls-are}
use Rattle.call_contexts.proofs.GraphFunctions.{first_graph, graph_in}
use Rattle.call_contexts.proofs.GraphPlaces.{entry_of}
use Rattle.call_contexts.proofs.Places.{from-map, map_at, mapped_at, pair_at, pairs_by}
use Rattle.call_contexts.proofs.Zips.{zip_left, zip_right}

-- The functions that units of a program's graphs call have graphs.
pub calls_known : (image : Image) (entry : ℕ) (graphs : Graphs) → AreGraphs image entry graphs →
    All (λ (graph : Graph). All (λ (unit : Node). All (IsKnown graphs.graphs) unit.calls) graph.units) graphs.graphs
calls_known image entry graphs are p dg inside k dn within j d there =
    are.whole callee (further graph.entry callee is.function (record { address = unit.address; reached = node.reached; calls = node.described.calls.sound callee among }))
  where
    graph : Graph
    graph = get_or graphs.graphs p dg

    unit : Node
    unit = get_or graph.units k dn

    callee : ℕ
    callee = get_or unit.calls j d

    is : IsGraphIn image entry graph
    is = are.each p dg inside

    node : IsNode image graph.entry unit
    node = is.is.nodes k dn within

    among : Contains unit.calls callee
    among = Contains-get_or unit.calls j d there

-- A graph has its list of calls.
pub record HasList (graphs : List Graph) (lists : List (List Called)) (position : ℕ) (graph : Graph) (called : List Called) : Type 0 where
  pub there : slice_get graphs position ≡ Some graph
  pub listed : slice_get lists position ≡ Some called
  pub are : AreCalled graphs (calls_in graph) called

pub list_of : (graphs : List Graph) (lists : List (List Called)) → AreCallLists graphs lists → (position : ℕ) (graph : Graph) →
    slice_get graphs position ≡ Some graph → (called : List Called) × HasList graphs lists position graph called
list_of graphs lists zip position graph there =
    let (called, listed, are) = zip_left (λ (g : Graph). AreCalled graphs (calls_in g)) graphs lists zip position graph there in
    (called, record { there = there; listed = listed; are = are })

pub graph_of : (graphs : List Graph) (lists : List (List Called)) → AreCallLists graphs lists → (position : ℕ) (called : List Called) →
    slice_get lists position ≡ Some called → (graph : Graph) × HasList graphs lists position graph called
graph_of graphs lists zip position called listed =
    let (graph, there, are) = zip_right (λ (g : Graph). AreCalled graphs (calls_in g)) graphs lists zip position called listed in
    (graph, record { there = there; listed = listed; are = are })

-- The calls of a list are those of the graph's function.
pub called_are : (image : Image) (entry : ℕ) (graphs : Graphs) → AreGraphs image entry graphs → (lists : List (List Called)) (position : ℕ) (graph : Graph)
    (called : List Called) → HasList graphs.graphs lists position graph called → AreCallsOf image graph.entry (map call_of called)
called_are image entry graphs are lists position graph called has =
    subst (AreCallsOf image graph.entry) (sym has.are.same) (graph_calls-are image graph.entry graph (graph_in image entry graphs are position graph has.there).is)

-- One of them is a call of the function.
pub called_by : (image : Image) (entry : ℕ) (graphs : Graphs) → AreGraphs image entry graphs → (lists : List (List Called)) (position : ℕ) (graph : Graph)
    (called : List Called) → HasList graphs.graphs lists position graph called → (one : Called) → Contains called one → IsCallOf image graph.entry (call_of one)
called_by image entry graphs are lists position graph called has one among =
    let (k, there) = place_of called one among in
    All-contains (IsCallOf image graph.entry) (map call_of called) (call_of one) (called_are image entry graphs are lists position graph called has).sound
    (contains_at (map call_of called) k (call_of one) (map_at call_of called k one there))

pub placed_by : (graphs : List Graph) (lists : List (List Called)) (position : ℕ) (graph : Graph) (called : List Called) →
    HasList graphs lists position graph called → (one : Called) → Contains called one → IsGraphAt graphs one.target one.graph
placed_by graphs lists position graph called has one among = All-contains (λ (c : Called). IsGraphAt graphs c.target c.graph) called one has.are.placed among

-- The lists rise.
pub lists_rise : (image : Image) (entry : ℕ) (graphs : Graphs) → AreGraphs image entry graphs → (lists : List (List Called)) → AreCallLists graphs.graphs lists →
    All RiseCalls lists
lists_rise image entry graphs are lists zip k d inside =
    let called = get_or lists k d in
    let (graph, has) = graph_of graphs.graphs lists zip k called (slice_get-get_or lists k d inside) in
    let rising = (called_are image entry graphs are lists k graph called has).rising in
    pairs_by (λ (a b : Called). IsCallAfter (call_of a) (call_of b)) called (λ i j a b less one other.
    pair_at IsCallAfter (map call_of called) rising i j (call_of a) (call_of b) less (map_at call_of called i a one) (map_at call_of called j b other))

-- Steps go to positions of graphs.
pub lists_within : (graphs : List Graph) (lists : List (List Called)) → AreCallLists graphs lists → length lists ≡ length graphs → IsWithin (steps_of lists)
lists_within graphs lists zip count k d inside j e there =
    let listed = slice_get-get_or (steps_of lists) k d inside in
    let (called, at, same) = mapped_at steps_in lists k (get_or (steps_of lists) k d) listed in
    let (graph, has) = graph_of graphs lists zip k called at in
    let (one, among, is) = from-map (λ (c : Called). c.graph) called (get_or (get_or (steps_of lists) k d) j e)
    (subst (λ (steps : List ℕ). Contains steps (get_or (get_or (steps_of lists) k d) j e)) (sym same) (Contains-get_or (get_or (steps_of lists) k d) j e there)) in
    let placed = placed_by graphs lists k graph called has one among in
    omega (arith, is, slice_get_within graphs one.graph placed.graph placed.there, count, length-map lists steps_in)

-- The function of a position.
abbrev pub entry_at : List Graph → ℕ → ℕ
entry_at graphs position = get_or (map entry_of graphs) position 0

pub entry_there : (graphs : List Graph) (function position : ℕ) → IsGraphAt graphs function position → entry_at graphs position ≡ function
entry_there graphs function position at =
    get_or_from_slice_get (map entry_of graphs) position (entry_of at.graph) 0 (map_at entry_of graphs position at.graph at.there) ∙ at.same

-- Steps are calls.
step_calls : (image : Image) (entry : ℕ) (graphs : Graphs) → AreGraphs image entry graphs → (lists : List (List Called)) → AreCallLists graphs.graphs lists →
    (from to : ℕ) → IsStep (steps_of lists) from to → Calls image (entry_at graphs.graphs from) (entry_at graphs.graphs to)
step_calls image entry graphs are lists zip from to step =
    let (called, listed, same) = mapped_at steps_in lists from step.steps step.there in
    let (graph, has) = graph_of graphs.graphs lists zip from called listed in
    let (one, among, is) = from-map (λ (c : Called). c.graph) called to (subst (λ (steps : List ℕ). Contains steps to) (sym same) step.goes) in
    let call = called_by image entry graphs are lists from graph called has one among in
    let caller = entry_there graphs.graphs graph.entry from (record { graph = graph; there = has.there; same = refl }) in
    let callee = entry_there graphs.graphs one.target one.graph (placed_by graphs.graphs lists from graph called has one among) in
    subst (λ (f : ℕ). Calls image f (entry_at graphs.graphs to)) (sym caller)
    (subst (λ (p : ℕ). Calls image graph.entry (entry_at graphs.graphs p)) is
    (subst (λ (f : ℕ). Calls image graph.entry f) (sym callee) (record { address = one.site; reached = call.reached; calls = call.calls })))

-- A way of calls, one further.
way_push : (image : Image) (way : List ℕ) (from to callee : ℕ) → IsCallWay image from way to → Calls image to callee → IsCallWay image from (way ++ callee ∷ []) callee
way_push image [] from to callee same calls = (subst (λ (f : ℕ). Calls image f callee) (sym same) calls, refl)
way_push image (next ∷ way) from to callee leads calls = (leads.0, way_push image way next to callee leads.1 calls)

-- To a position that is met calls lead from one of the starts.
record IsLedTo (image : Image) (graphs : List Graph) (starts : List ℕ) (to : ℕ) : Type 0 where
  start : ℕ
  among : Contains starts start
  way : List ℕ
  leads : IsCallWay image (entry_at graphs start) way (entry_at graphs to)

met_led : (image : Image) (entry : ℕ) (graphs : Graphs) → AreGraphs image entry graphs → (lists : List (List Called)) → AreCallLists graphs.graphs lists →
    (starts : List ℕ) (barred to : ℕ) → IsMet (steps_of lists) starts barred to → IsLedTo image graphs.graphs starts to
met_led image entry graphs are lists zip starts barred _ (IsMet.begins start among differ) = record { start = start; among = among; way = []; leads = refl }
met_led image entry graphs are lists zip starts barred _ (IsMet.goes from to met step differ) =
    let led = met_led image entry graphs are lists zip starts barred from met in
    record {
      start = led.start;
      among = led.among;
      way = led.way ++ entry_at graphs.graphs to ∷ [];
      leads = way_push image led.way (entry_at graphs.graphs led.start) (entry_at graphs.graphs from) (entry_at graphs.graphs to) led.leads
          (step_calls image entry graphs are lists zip from to step);
    }

-- So no steps lead back, since no function calls itself.
pub steps_acyclic : (image : Image) (entry : ℕ) (graphs : Graphs) → HasGraphs image entry graphs → (lists : List (List Called)) → AreCallLists graphs.graphs lists →
    IsAcyclic (steps_of lists)
steps_acyclic image entry graphs has lists zip position cyclic =
    let led = met_led image entry graphs has.graphs_are lists zip cyclic.steps (length (steps_of lists)) position cyclic.met in
    let (called, listed, same) = mapped_at steps_in lists position cyclic.steps cyclic.there in
    let (graph, of) = graph_of graphs.graphs lists zip position called listed in
    let here = entry_there graphs.graphs graph.entry position (record { graph = graph; there = of.there; same = refl }) in
    has.faultless Recursion (entry_at graphs.graphs position) (recursive (entry_at graphs.graphs position) (record {
      reached = subst (IsFunction image entry) (sym here) (graph_in image entry graphs has.graphs_are position graph of.there).function;
      callee = entry_at graphs.graphs led.start;
      more = led.way;
      begins = step_calls image entry graphs has.graphs_are lists zip position led.start (a_step (steps_of lists) position led.start cyclic.steps cyclic.there led.among);
      back = led.leads;
    }))

-- The entry function doesn't call itself.
pub entry_apart : (image : Image) (entry : ℕ) (graphs : Graphs) → HasGraphs image entry graphs → (lists : List (List Called)) → AreCallLists graphs.graphs lists →
    (calls : List Called) → slice_get lists 0 ≡ Some calls → All (λ one. one.target ≡ entry → ⊥) calls
entry_apart image entry graphs has lists zip calls listed k d inside same =
    let one = get_or calls k d in
    let (graph, of) = graph_of graphs.graphs lists zip 0 calls listed in
    let call = called_by image entry graphs has.graphs_are lists 0 graph calls of one (Contains-get_or calls k d inside) in
    let first : graph.entry ≡ entry = ap entry_of (same_Some graph has.graphs_are.first (sym of.there ∙ first_graph image entry graphs has.graphs_are)) ∙ has.graphs_are.begins in
    has.faultless Recursion entry (recursive entry (record {
      reached = main;
      callee = entry;
      more = [];
      begins = subst (λ (f : ℕ). Calls image f entry) first (subst (λ (f : ℕ). Calls image graph.entry f) same
          (record { address = one.site; reached = call.reached; calls = call.calls }));
      back = refl;
    }))
