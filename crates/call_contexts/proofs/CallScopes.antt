-- The scope of the call that made a context, among the scopes of the earlier contexts' places.
use Rattle.std.proofs.Common.{◌≡◌, ℕ, suc, ◌+◌, ◌-◌, ◌<◌, ◌≤◌, inr, List, length, get_or, slice_get, Some, arith}
use Rattle.std.proofs.lemmas.Option.{slice_get_within}
use Rattle.elf_mips.specs.declared.image.Image.{Image}
use Rattle.flow_net.specs.Numbers.{IsNumberOf}
use Rattle.flow_net.proofs.Numbers.{item_at-there}
use Rattle.flow_net.specs.declared.net.Context.{Context}
use Rattle.loop_nest.specs.declared.nest.Nests.{Nests}
use Rattle.unit_graph.specs.declared.graph.Graphs.{Graphs}
use Rattle.call_contexts.specs.Instances.{HasLayout, IsRoundContext}
use Rattle.call_contexts.specs.Spots.{HasNumber, IsNumberAt}
use Rattle.call_contexts.specs.declared.layout.Layout.{Layout}
use Rattle.call_contexts.proofs.Growing.{grows}
use Rattle.call_contexts.proofs.LaidProgram.{number-there}
use Rattle.call_contexts.proofs.Parts.{bases-grow, laid-program}

-- The call that made a context has a place.
pub call-there : (image : Image) (entry : ℕ) (graphs : Graphs) (nests : Nests) (layout : Layout) → HasLayout image entry graphs nests layout →
    (number : ℕ) (context : Context) → slice_get layout.contexts.keys number ≡ Some context → 0 < number →
    HasNumber graphs.graphs layout context.parent context.site
call-there image entry graphs nests layout laid number context there later =
    let made = laid.layout_is.contexts.made number context there later in
    number-there image entry graphs layout context.parent context.site made.there.context
    (laid-program image entry graphs nests layout laid) made.there.there made.there.reached

-- It is a place of an earlier context, whose scope is known.
pub call-early : (image : Image) (entry : ℕ) (graphs : Graphs) (nests : Nests) (layout : Layout) → HasLayout image entry graphs nests layout →
    (number : ℕ) (scopes : List ℕ) (context : Context) → slice_get layout.contexts.keys number ≡ Some context → 0 < number → (call : ℕ) →
    IsNumberAt graphs.graphs layout context.parent context.site call → slice_get layout.bases.items number ≡ Some (length scopes + 1) →
    IsNumberOf scopes call
call-early image entry graphs nests layout laid number scopes context there later call at filled =
    let spot = at.spot in
    let out = laid.layout_is.laid in
    let grow = bases-grow image entry graphs nests layout laid in
    let least : 1 ≤ spot.base = grows layout.bases.items grow context.parent 0 1 spot.base (omega arith) out.first spot.begins in
    let next = out.next context.parent spot.base spot.graph spot.has spot.begins in
    let early = (laid.layout_is.contexts.made number context there later).earlier in
    let most : spot.base + length spot.graph.units ≤ length scopes + 1 =
    grows layout.bases.items grow number (suc context.parent) (spot.base + length spot.graph.units) (length scopes + 1) (omega (arith, early)) next filled in
    let inside : at.position < length spot.graph.units = slice_get_within spot.graph.units at.position at.node spot.there in
    let counted : call ≡ spot.base + at.position = spot.counted in
    record { from_one = omega (arith, least, counted); within = omega (arith, most, inside, counted) }

-- Its scope is the one round the context.
pub call-round : (graphs : Graphs) (layout : Layout) (number : ℕ) (scopes : List ℕ) (context : Context) →
    slice_get layout.contexts.keys number ≡ Some context → 0 < number → (call : ℕ) →
    IsNumberAt graphs.graphs layout context.parent context.site call → IsNumberOf scopes call →
    IsRoundContext graphs.graphs layout scopes number (get_or scopes (call - 1) 0)
call-round graphs layout number scopes context there later call at early = inr (
  later,
  record {
    of = context;
    there = there;
    position = at.position;
    number = call;
    node = at.node;
    spot = at.spot;
    site = at.same;
    is = item_at-there scopes call 0 early;
  },
)
