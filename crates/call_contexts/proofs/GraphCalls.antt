-- The units and the calls of a function, listed from its graph.
use Rattle.std.proofs.Common.{◌≡◌, ℕ, ◌<◌, inl, inr, List, [], ◌∷◌, map, All, AllPairs, Contains, refl, sym, subst, arith}
use Rattle.std.specs.Prelude.{flat_map}
use Rattle.std.proofs.lemmas.List.Elements.{All-append, All-contains, All-head, All-map, All-nil, All-tail, All-weaker, All-contains_itself, Contains-append_left, Contains-append_right}
use Rattle.elf_mips.specs.declared.image.Image.{Image}
use Rattle.mips_decode.specs.Transfer.{Call}
use Rattle.net_model.specs.Functions.{CallsAt, IsFunction, IsReached}
use Rattle.unit_graph.specs.Graphs.{AreGraphs, AreJust, IsGraph, IsGraphIn, IsNode}
use Rattle.unit_graph.specs.declared.graph.Graph.{Graph}
use Rattle.unit_graph.specs.declared.graph.Graphs.{Graphs}
use Rattle.unit_graph.specs.declared.node.Unit.{Unit as Node}
use Rattle.loop_nest.proofs.Ordered.{cases-in, nothing-in, pairs-head, pairs-tail}
use Rattle.call_contexts.proofs.Calling.{call_to}
use Rattle.call_contexts.proofs.Keyed.{keys-ordered}
use Rattle.call_contexts.proofs.Places.{from-map, in-map}
use Rattle.call_contexts.proofs.Zips.{pairs-append}
use Rattle.call_contexts.specs.Around.{Rise}
use Rattle.call_contexts.specs.Counting.{calls_at}
use Rattle.call_contexts.specs.Sizes.{AreCallsOf, IsCallAfter, IsCallOf}

-- The calls of units, by rising sites and, for each site, by rising functions.
abbrev pub graph_calls : List Node → List Call
graph_calls units = flat_map calls_at units

-- Each call of a unit has its site there.
calls_at-site : (node : Node) → All (λ (call : Call). call.site ≡ node.address) (calls_at node)
calls_at-site node =
    All-map (λ (call : Call). call.site ≡ node.address) (call_to node.address) node.calls (λ k d inside. refl)

calls_at-rising : (image : Image) (function : ℕ) (node : Node) → IsNode image function node → AllPairs IsCallAfter (calls_at node)
calls_at-rising image function node is =
    keys-ordered IsCallAfter (call_to node.address) node.calls
    (λ i j d less inside. inr (refl, is.described.calls.rising i j d less inside))

calls_at-sound : (image : Image) (function : ℕ) (node : Node) → IsNode image function node → All (IsCallOf image function) (calls_at node)
calls_at-sound image function node is =
    All-map (IsCallOf image function) (call_to node.address) node.calls
    (All-weaker (Contains node.calls) (λ (callee : ℕ). IsCallOf image function (call_to node.address callee))
    (λ callee there. record { reached = is.reached; calls = is.described.calls.sound callee there })
    node.calls (All-contains_itself node.calls))

-- The calls of later units stand at later sites.
graph_calls-later : (floor : ℕ) (units : List Node) → All (λ (node : Node). floor < node.address) units →
    All (λ (call : Call). floor < call.site) (graph_calls units)
graph_calls-later floor [] later = All-nil (λ (call : Call). floor < call.site)
graph_calls-later floor (node ∷ more) later =
    All-append (λ (call : Call). floor < call.site) (calls_at node) (graph_calls more)
    (All-weaker (λ (call : Call). call.site ≡ node.address) (λ (call : Call). floor < call.site)
    (λ call same. let less = All-head (λ (n : Node). floor < n.address) node more later in omega (arith, same, less))
    (calls_at node) (calls_at-site node))
    (graph_calls-later floor more (All-tail (λ (n : Node). floor < n.address) node more later))

graph_calls-rising : (image : Image) (function : ℕ) (units : List Node) → Rise units → All (IsNode image function) units →
    AllPairs IsCallAfter (graph_calls units)
graph_calls-rising image function [] rising nodes = λ i j d less inside. absurd (omega (arith, inside))
graph_calls-rising image function (node ∷ more) rising nodes =
    pairs-append IsCallAfter (calls_at node) (graph_calls more)
    (calls_at-rising image function node (All-head (IsNode image function) node more nodes))
    (graph_calls-rising image function more (pairs-tail (λ (a b : Node). a.address < b.address) node more rising)
    (All-tail (IsNode image function) node more nodes))
    (All-weaker (λ (call : Call). call.site ≡ node.address) (λ (call : Call). All (IsCallAfter call) (graph_calls more))
    (λ call same. All-weaker (λ (other : Call). node.address < other.site) (IsCallAfter call)
    (λ other less. inl (omega (arith, same, less))) (graph_calls more)
    (graph_calls-later node.address more (pairs-head (λ (a b : Node). a.address < b.address) node more rising)))
    (calls_at node) (calls_at-site node))

graph_calls-sound : (image : Image) (function : ℕ) (units : List Node) → All (IsNode image function) units →
    All (IsCallOf image function) (graph_calls units)
graph_calls-sound image function [] nodes = All-nil (IsCallOf image function)
graph_calls-sound image function (node ∷ more) nodes =
    All-append (IsCallOf image function) (calls_at node) (graph_calls more)
    (calls_at-sound image function node (All-head (IsNode image function) node more nodes))
    (graph_calls-sound image function more (All-tail (IsNode image function) node more nodes))

graph_calls-there : (units : List Node) (node : Node) (call : Call) → Contains units node → Contains (calls_at node) call →
    Contains (graph_calls units) call
graph_calls-there [] node call there at = absurd (nothing-in node there)
graph_calls-there (one ∷ more) node call there at = elim (cases-in one more node there) [
  | inl here ↦ Contains-append_left (calls_at one) (graph_calls more) call
      (subst (λ (n : Node). Contains (calls_at n) call) (sym here) at)
  | inr behind ↦ Contains-append_right (calls_at one) (graph_calls more) call (graph_calls-there more node call behind at)
]

graph_calls-whole : (image : Image) (function : ℕ) (graph : Graph) → IsGraph image function graph → (call : Call) →
    IsCallOf image function call → Contains (graph_calls graph.units) call
graph_calls-whole image function graph is call calls =
    let (node, there, at) = from-map (λ (n : Node). n.address) graph.units call.site (is.whole call.site calls.reached) in
    let stands : IsNode image function node = All-contains (IsNode image function) graph.units node is.nodes there in
    let listed : Contains node.calls call.target =
    stands.described.calls.whole call.target (subst (λ (a : ℕ). CallsAt image a call.target) (sym at) calls.calls) in
    graph_calls-there graph.units node call there
    (subst (λ (site : ℕ). Contains (calls_at node) (call_to site call.target)) at
    (in-map (call_to node.address) node.calls call.target listed))

-- The calls of a function are those of its graph's units.
pub graph_calls-are : (image : Image) (function : ℕ) (graph : Graph) → IsGraph image function graph →
    AreCallsOf image function (graph_calls graph.units)
graph_calls-are image function graph is = record {
  rising = graph_calls-rising image function graph.units is.rising is.nodes;
  sound = graph_calls-sound image function graph.units is.nodes;
  whole = graph_calls-whole image function graph is;
}

-- The addresses that a function reaches are those of its graph's units.
pub graph_units-are : (image : Image) (function : ℕ) (graph : Graph) → IsGraph image function graph →
    AreJust (IsReached image function) (map (λ (n : Node). n.address) graph.units)
graph_units-are image function graph is = record {
  rising = keys-ordered (λ (a b : ℕ). a < b) (λ (n : Node). n.address) graph.units is.rising;
  sound = λ address there.
      let (node, listed, at) = from-map (λ (n : Node). n.address) graph.units address there in
      subst (IsReached image function) at (All-contains (IsNode image function) graph.units node is.nodes listed).reached;
  whole = is.whole;
}

-- Each function of the program has its graph.
pub function-graph : (image : Image) (entry : ℕ) (graphs : Graphs) → AreGraphs image entry graphs → (function : ℕ) →
    IsFunction image entry function → (graph : Graph) × IsGraph image function graph
function-graph image entry graphs are function is =
    let (graph, there, same) = from-map (λ (g : Graph). g.entry) graphs.graphs function (are.whole function is) in
    (graph, subst (λ (f : ℕ). IsGraph image f graph) same (All-contains (IsGraphIn image entry) graphs.graphs graph are.each there).is)
