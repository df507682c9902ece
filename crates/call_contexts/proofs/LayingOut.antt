-- The contexts of a program, laid out.
use Rattle.std.proofs.Common.{◌≡◌, ℕ, zero, suc, ◌<◌, List, length, get_or, slice_get, Contains, Some, sym, ap, subst, ◌∙◌, arith}
use Rattle.std.proofs.lemmas.Option.{same_Some, slice_get-get_or, slice_get_within}
use Rattle.elf_mips.specs.declared.image.Image.{Image}
use Rattle.flow_net.specs.declared.net.Context.{Context}
use Rattle.mips_decode.specs.Transfer.{Call}
use Rattle.net_model.specs.Contexts.{AreContexts, IsMade, Reaches, made_by, root}
use Rattle.net_model.specs.Functions.{CallsAt, IsReached}
use Rattle.unit_graph.specs.Graphs.{AreGraphs}
use Rattle.unit_graph.specs.declared.graph.Graph.{Graph}
use Rattle.unit_graph.specs.declared.graph.Graphs.{Graphs}
use Rattle.call_contexts.specs.Counting.{AreCallLists, IsGraphAt, call_of}
use Rattle.call_contexts.specs.Expansion.{AreExpanded, HasCalls, IsMadeIn}
use Rattle.call_contexts.specs.Sizes.{IsCallOf}
use Rattle.call_contexts.specs.declared.calls.Called.{Called}
use Rattle.call_contexts.proofs.CallGraph.{called_are, called_by, graph_of, list_of, placed_by}
use Rattle.call_contexts.proofs.GraphFunctions.{first_graph}
use Rattle.call_contexts.proofs.Places.{from-map}

-- The contexts that a program's lists of calls make, all of which have made theirs.
pub record AreMadeAll (image : Image) (entry : ℕ) (graphs : Graphs) (lists : List (List Called)) (contexts : List Context) (functions : List ℕ) (count : ℕ) : Type 0 where
  pub graphs_are : AreGraphs image entry graphs
  pub zip : AreCallLists graphs.graphs lists
  pub expanded : AreExpanded entry lists contexts functions count
  pub counted : length functions ≡ count

module _ (image : Image) (entry : ℕ) (graphs : Graphs) (lists : List (List Called)) (contexts : List Context) (functions : List ℕ) (count : ℕ)
    (all : AreMadeAll image entry graphs lists contexts functions count) where
  -- The position of a context is that of its function's graph.
  pub position_is : (number position : ℕ) (context : Context) → slice_get contexts number ≡ Some context → slice_get functions number ≡ Some position →
      IsGraphAt graphs.graphs context.target position
  position_is zero position context there at =
      let root_is : root entry ≡ context = same_Some (root entry) context (sym all.expanded.first ∙ there) in
      let zero_is : 0 ≡ position = same_Some 0 position (sym all.expanded.start ∙ at) in
      subst (λ (p : ℕ). IsGraphAt graphs.graphs context.target p) zero_is (record {
        graph = all.graphs_are.first;
        there = first_graph image entry graphs all.graphs_are;
        same = all.graphs_are.begins ∙ ap (λ (c : Context). c.target) root_is;
      })
  position_is (suc number) position context there at =
      let made = all.expanded.made (suc number) context there (omega arith) in
      let (graph, has) = graph_of graphs.graphs lists all.zip made.has.function made.calls made.has.listed in
      let placed = placed_by graphs.graphs lists made.has.function graph made.calls has made.one made.listed in
      let here : made.one.graph ≡ position = same_Some made.one.graph position (sym made.function ∙ at) in
      subst (λ (p : ℕ). IsGraphAt graphs.graphs context.target p) here
      (subst (λ (f : ℕ). IsGraphAt graphs.graphs f made.one.graph) (ap (λ (c : Context). c.target) made.same) placed)

  -- Each context's position, and each position's context.
  pub context_at : (number position : ℕ) → slice_get functions number ≡ Some position → (context : Context) × (slice_get contexts number ≡ Some context)
  context_at number position at =
      (get_or contexts number (root entry), slice_get-get_or contexts number (root entry) (omega (arith, slice_get_within functions number position at, all.expanded.sized)))

  position_at : (number : ℕ) (context : Context) → slice_get contexts number ≡ Some context → (position : ℕ) × (slice_get functions number ≡ Some position)
  position_at number context there =
      (get_or functions number 0, slice_get-get_or functions number 0 (omega (arith, slice_get_within contexts number context there, all.expanded.sized)))

  -- A call in the list of a context's function is one of its function.
  call_in : (number : ℕ) (context : Context) (calls : List Called) (one : Called) → slice_get contexts number ≡ Some context → HasCalls lists functions number calls →
      Contains calls one → IsCallOf image context.target (call_of one)
  call_in number context calls one there has among =
      let at = position_is number has.function context there has.is in
      let (graph, of) = graph_of graphs.graphs lists all.zip has.function calls has.listed in
      let same : graph.entry ≡ context.target = ap (λ (g : Graph). g.entry) (same_Some graph at.graph (sym of.there ∙ at.there)) ∙ at.same in
      subst (λ (f : ℕ). IsCallOf image f (call_of one)) same (called_by image entry graphs all.graphs_are lists has.function graph calls of one among)

  made_is : (number : ℕ) (context : Context) → IsMadeIn lists functions count number context → IsMade image contexts number context
  made_is number context made =
      let (parent, there) = context_at context.parent made.has.function made.has.is in
      let call = call_in context.parent parent made.calls made.one there made.has made.listed in
      let site : made.one.site ≡ context.site = ap (λ (c : Context). c.site) made.same in
      let target : made.one.target ≡ context.target = ap (λ (c : Context). c.target) made.same in
      record {
        earlier = made.earlier;
        there = record { context = parent; there = there; reached = subst (IsReached image parent.target) site call.reached };
        calls = subst (λ (f : ℕ). CallsAt image context.site f) target (subst (λ (s : ℕ). CallsAt image s made.one.target) site call.calls);
      }

  -- A call of a context's function stands in its list.
  listed_in : (parent site callee : ℕ) (of : Context) → slice_get contexts parent ≡ Some of → IsCallOf image of.target (record { site = site; target = callee }) →
      (calls : List Called) × HasCalls lists functions parent calls × ((one : Called) × Contains calls one × (call_of one ≡ record { site = site; target = callee }))
  listed_in parent site callee of there call =
      let (position, at) = position_at parent of there in
      let graph = position_is parent position of there at in
      let (calls, has) = list_of graphs.graphs lists all.zip position graph.graph graph.there in
      let are = called_are image entry graphs all.graphs_are lists position graph.graph calls has in (
        calls,
        record { function = position; is = at; listed = has.listed },
        from-map call_of calls (record { site = site; target = callee })
            (are.whole (record { site = site; target = callee }) (subst (λ (f : ℕ). IsCallOf image f (record { site = site; target = callee })) (sym graph.same) call)),
      )

  whole_is : (parent site callee : ℕ) → Reaches image contexts parent site → CallsAt image site callee →
      (number : ℕ) × (0 < number) × (slice_get contexts number ≡ Some (made_by parent site callee))
  whole_is parent site callee reaches calls =
      let (list, has, one) = listed_in parent site callee reaches.context reaches.there (record { reached = reaches.reached; calls = calls }) in
      let within : parent < count = omega (arith, slice_get_within contexts parent reaches.context reaches.there, all.expanded.sized, all.counted) in
      let (number, made) = all.expanded.whole parent list one.0 within has one.1 in
      (number, made.later, subst (λ (call : Call). slice_get contexts number ≡ Some (made_by parent call.site call.target)) one.2 made.there)

  pub contexts_are : AreContexts image entry contexts
  contexts_are = record {
    first = all.expanded.first;
    made = λ number context there later. made_is number context (all.expanded.made number context there later);
    whole = whole_is;
    order = all.expanded.order;
  }
