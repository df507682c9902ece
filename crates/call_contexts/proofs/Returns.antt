-- Whether a program's entry function returns.
use Rattle.std.proofs.Common.{◌≡◌, ◌||◌, ◌⊎◌, inl, inr, ℕ, Bool, true, false, List, [], ◌∷◌, slice_get, Contains, Some, ⊎_elim, refl, sym, ap, subst, ◌∙◌, true≢false}
use Rattle.std.specs.List.{list_any}
use Rattle.std.proofs.lemmas.List.Elements.{All-contains}
use Rattle.std.proofs.lemmas.Option.{same_Some}
use Rattle.elf_mips.specs.declared.image.Image.{Image}
use Rattle.loop_nest.proofs.Ordered.{cases-in, first-in, later-in, nothing-in}
use Rattle.net_model.specs.declared.unit.CodeUnit.{CodeUnit}
use Rattle.net_model.specs.declared.unit.Content.TheVariants.{Unit as Stands}
use Rattle.net_model.specs.Functions.{CanReturn, IsReached, returned}
use Rattle.net_model.specs.Onward.{returns}
use Rattle.net_model.specs.Targets.{unit_at}
use Rattle.unit_graph.specs.Graphs.{AreGraphs, IsGraph, IsNode}
use Rattle.unit_graph.specs.declared.graph.Graph.{Graph}
use Rattle.unit_graph.specs.declared.graph.Graphs.{Graphs}
use Rattle.unit_graph.specs.declared.node.Unit.{Unit as Node}
use Rattle.call_contexts.proofs.Places.{from-map}
use Rattle.call_contexts.proofs.GraphFunctions.{first_graph, graph_in}

-- An item that passes, or what all fail.
any_step : {T : Type 0} (test : T → Bool) (item : T) (items : List T) (b : Bool) → test item ≡ b → list_any test (item ∷ items) ≡ true →
    (test item ≡ true) ⊎ (list_any test items ≡ true)
any_step test item items true e any = inl e
any_step test item items false e any = inr (sym (ap (λ (c : Bool). c || list_any test items) e) ∙ any)

some_passes : {T : Type 0} (test : T → Bool) (items : List T) → list_any test items ≡ true → (item : T) × Contains items item × (test item ≡ true)
some_passes test [] any = absurd (true≢false (sym any))
some_passes {T} test (item ∷ items) any = ⊎_elim
    (λ here. (item, first-in item items, here))
    (λ behind. let rest = some_passes test items behind in (rest.0, later-in item items rest.0 rest.1, rest.2))
    (any_step test item items (test item) refl any)

any_passes : {T : Type 0} (test : T → Bool) (items : List T) (item : T) → Contains items item → test item ≡ true → list_any test items ≡ true
any_passes test [] item there passes = absurd (nothing-in item there)
any_passes {T} test (one ∷ items) item there passes = ⊎_elim
    (λ here. ap (λ (c : Bool). c || list_any test items) (ap test here ∙ passes))
    (λ behind. or_true (test one) (list_any test items) (any_passes test items item behind passes))
    (cases-in one items item there)
  where
    or_true : (a b : Bool) → b ≡ true → (a || b) ≡ true
    or_true true b e = refl
    or_true false b e = e

same_unit : (one other : CodeUnit) → Stands one ≡ Stands other → one ≡ other
same_unit one other same = cc

-- The first graph is that of the entry function.
entry_graph : (image : Image) (entry : ℕ) (graphs : Graphs) → AreGraphs image entry graphs → (graph : Graph) → slice_get graphs.graphs 0 ≡ Some graph →
    IsGraph image entry graph
entry_graph image entry graphs are graph there =
    let same : graph.entry ≡ entry = ap (λ (g : Graph). g.entry) (same_Some graph are.first (sym there ∙ first_graph image entry graphs are)) ∙ are.begins in
    subst (λ (f : ℕ). IsGraph image f graph) same (graph_in image entry graphs are 0 graph there).is

abbrev node_returns : Node → Bool
node_returns node = node.returns

pub returns_by : (image : Image) (entry : ℕ) (graphs : Graphs) → AreGraphs image entry graphs → (graph : Graph) → slice_get graphs.graphs 0 ≡ Some graph →
    graph.can_return ≡ true → CanReturn image entry
returns_by image entry graphs are graph there can =
    let is = entry_graph image entry graphs are graph there in
    let (node, among, passes) = some_passes node_returns graph.units (sym is.returning ∙ can) in
    let stands = All-contains (IsNode image entry) graph.units node is.nodes among in
    returned entry node.address stands.unit stands.reached stands.stands (sym stands.described.returns ∙ passes)

node_passes : (image : Image) (function address : ℕ) (unit : CodeUnit) (graph : Graph) → IsGraph image function graph → IsReached image function address →
    unit_at image address ≡ Stands unit → returns unit ≡ true → list_any node_returns graph.units ≡ true
node_passes image function address unit graph is reached stands passes =
    let (node, among, at) = from-map (λ (n : Node). n.address) graph.units address (is.whole address reached) in
    let of = All-contains (IsNode image function) graph.units node is.nodes among in
    let same : of.unit ≡ unit = same_unit of.unit unit (sym of.stands ∙ ap (unit_at image) at ∙ stands) in
    any_passes node_returns graph.units node among (of.described.returns ∙ ap returns same ∙ passes)

pub never_by : (image : Image) (entry : ℕ) (graphs : Graphs) → AreGraphs image entry graphs → (graph : Graph) → slice_get graphs.graphs 0 ≡ Some graph →
    graph.can_return ≡ false → CanReturn image entry → ⊥
never_by image entry graphs are graph there cannot (returned _ address unit reached stands passes) =
    let is = entry_graph image entry graphs are graph there in
    true≢false (sym (node_passes image entry address unit graph is reached stands passes) ∙ sym is.returning ∙ cannot)
