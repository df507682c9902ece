-- The arcs of a layout are those of a net.
use Rattle.std.proofs.Common.{◌≡◌, ℕ, zero, suc, ◌+◌, ◌<◌, ◌||◌, ◌⊎◌, inl, inr, Bool, true, false, cond, List, [], ◌∷◌, slice_get, drop, AllPairs, Contains, Some, refl, sym, ap, subst, ◌∙◌, arith}
use Rattle.std.proofs.lemmas.Option.{slice_get-get_or}
use Rattle.elf_mips.specs.declared.image.Image.{Image}
use Rattle.flow_net.specs.Numbers.{item_at}
use Rattle.flow_net.specs.declared.net.Context.{Context}
use Rattle.flow_net.specs.declared.net.Net.{Net}
use Rattle.flow_net.specs.declared.net.NetArc.{NetArc}
use Rattle.net_model.specs.Contexts.{made_by, root}
use Rattle.net_model.specs.Flow.{called, ways_on}
use Rattle.net_model.specs.Functions.{GoesOn, onward, back}
use Rattle.net_model.specs.Net.{HasArcs, LeadsOn, LeadsTo, goes as leads_goes, calls as leads_calls, comes_back, ends}
use Rattle.net_model.specs.Onward.{returns}
use Rattle.net_model.specs.Places.{IsArcBefore, IsPlaceOf}
use Rattle.net_model.specs.Targets.{is_none, unit_at}
use Rattle.net_model.specs.declared.unit.CodeUnit.{CodeUnit}
use Rattle.net_model.specs.declared.unit.Content.TheVariants.{Unit as Stands}
use Rattle.loop_nest.proofs.Ordered.{first-in, nothing-in}
use Rattle.unit_graph.specs.Graphs.{IsNode}
use Rattle.unit_graph.specs.declared.graph.Graphs.{Graphs}
use Rattle.unit_graph.specs.declared.node.Unit.{Unit as Node}
use Rattle.call_contexts.specs.Arcs.{AreAllArcs, AreArcs, IsReturnTo, IsWay, Leads, goes, enters, returns as comes, arc_to, stays, ways_of}
use Rattle.call_contexts.specs.Spots.{IsLaidProgram}
use Rattle.call_contexts.specs.declared.layout.Layout.{Layout}
use Rattle.call_contexts.proofs.HasItsPlaces.{IsNetOf, number-place, place-number}
use Rattle.call_contexts.proofs.SpotNumbers.{one-at}
use Rattle.call_contexts.proofs.LaidProgram.{all-at, node-is}
use Rattle.call_contexts.proofs.Laying.{spot-below}
use Rattle.call_contexts.proofs.Quiet.{called-passes}
use Rattle.call_contexts.proofs.WayCounts.{same-unit}

-- A unit that calls a function calls one of its node's.
no-calls : (calls : List ℕ) (x : ℕ) → Contains calls x → is_none calls ≡ false
no-calls [] x there = absurd (nothing-in x there)
no-calls (c ∷ cs) x there = refl

some-call : (calls : List ℕ) (b : Bool) → is_none calls ≡ b → (b ≡ true) ⊎ ((callee : ℕ) × Contains calls callee)
some-call [] b same = inl (sym same)
some-call (c ∷ cs) b same = inr (c, first-in c cs)

-- The ways of a node's unit in its own context are its ways by itself.
ways-on : (image : Image) (function : ℕ) (node : Node) (later : ℕ) → (is : IsNode image function node) → Contains (ways_of node) later →
    Contains (ways_on image is.unit node.address) later
ways-on image function node later is among = by_stay (stays node) refl among where
  skip : (u : CodeUnit) (callee : ℕ) → unit_at image node.address ≡ Stands u → Contains (called image u node.address) callee →
      stays node ≡ true → Contains (ways_on image is.unit node.address) (node.address + 8)
  skip u callee at called_there kept =
      let there : Contains (called image is.unit node.address) callee =
      subst (λ (v : CodeUnit). Contains (called image v node.address) callee) (same-unit image node.address is.unit u is.stands at) called_there in
      let listed : Contains node.calls callee =
      is.described.calls.whole callee (record { unit = is.unit; stands = is.stands; called = there }) in
      let skips : node.skips ≡ true = subst (λ (b : Bool). (b || node.skips) ≡ true) (no-calls node.calls callee listed) kept in
      (called-passes image is.unit node.address callee there).1 (sym is.described.skips ∙ skips)

  by_goes : stays node ≡ true → (x : ℕ) → GoesOn image node.address x → Contains (ways_on image is.unit node.address) x
  by_goes kept x (onward _ _ u at way) =
      subst (λ (v : CodeUnit). Contains (ways_on image v node.address) x) (same-unit image node.address is.unit u is.stands at) way
  by_goes kept _ (back _ callee u at way can) = skip u callee at way kept

  by_stay : (b : Bool) → stays node ≡ b → Contains (cond b node.onward []) later → Contains (ways_on image is.unit node.address) later
  by_stay true kept there = by_goes kept later (is.described.onward.sound later there)
  by_stay false kept there = absurd (nothing-in later there)

ways-of : (image : Image) (function : ℕ) (node : Node) (later : ℕ) → (is : IsNode image function node) →
    Contains (ways_on image is.unit node.address) later → Contains (ways_of node) later
ways-of image function node later is among =
    subst (λ (b : Bool). Contains (cond b node.onward []) later) (sym (by_call (some-call node.calls (is_none node.calls) refl)))
    (is.described.onward.whole later (onward node.address later is.unit is.stands among))
  where
    or-left : (a b : Bool) → a ≡ true → (a || b) ≡ true
    or-left true b same = refl
    or-left false b same = absurd cc

    or-right : (a b : Bool) → b ≡ true → (a || b) ≡ true
    or-right true b same = refl
    or-right false b same = same

    by_call : ((is_none node.calls ≡ true) ⊎ ((callee : ℕ) × Contains node.calls callee)) → stays node ≡ true
    by_call (inl none) = or-left (is_none node.calls) node.skips none
    by_call (inr (callee, listed)) =
        let calls = is.described.calls.sound callee listed in
        let there : Contains (called image is.unit node.address) callee =
        subst (λ (v : CodeUnit). Contains (called image v node.address) callee) (same-unit image node.address is.unit calls.unit is.stands calls.stands)
        calls.called in
        or-right (is_none node.calls) node.skips
        (is.described.skips ∙ (called-passes image is.unit node.address callee there).0 later among)

-- A way of the layout is one of the net.
leads-to : (image : Image) (entry : ℕ) (graphs : Graphs) (layout : Layout) (net : Net) (context : ℕ) (node : Node) (function to : ℕ) →
    IsNetOf graphs layout net → (is : IsNode image function node) → Leads graphs.graphs layout context node to →
    LeadsTo image net is.unit context node.address to
leads-to image entry graphs layout net context node function to of is (goes _ later among at) =
    leads_goes to later (ways-on image function node later is among) (number-place graphs layout net context later to of at)
leads-to image entry graphs layout net context node function to of is (enters _ callee among at) =
    let calls = is.described.calls.sound callee among in
    let there : Contains (called image is.unit node.address) callee =
    subst (λ (v : CodeUnit). Contains (called image v node.address) callee) (same-unit image node.address is.unit calls.unit is.stands calls.stands)
    calls.called in
    leads_calls to at.made callee there at.is.later
    (subst (λ (all : List Context). slice_get all at.made ≡ Some (made_by context node.address callee)) (sym of.contexts) at.is.there)
    (number-place graphs layout net at.made callee to of at.at)
leads-to image entry graphs layout net context node function to of is (comes _ leaving at) = by_context at where
  returning : returns is.unit ≡ true
  returning = sym is.described.returns ∙ leaving

  by_context : IsReturnTo graphs.graphs layout context to → LeadsTo image net is.unit context node.address to
  by_context (inl first) =
      subst (λ (t : ℕ). LeadsTo image net is.unit context node.address t) (sym first.1) (ends returning first.0)
  by_context (inr back_there) =
      comes_back to back_there.of returning back_there.later
      (subst (λ (all : List Context). slice_get all context ≡ Some back_there.of) (sym of.contexts) back_there.there)
      (number-place graphs layout net back_there.of.parent (back_there.of.site + 8) to of back_there.at)

way-leads : (image : Image) (entry : ℕ) (graphs : Graphs) (layout : Layout) (net : Net) (from to : ℕ) → IsLaidProgram image entry graphs layout →
    IsNetOf graphs layout net → IsWay graphs.graphs layout from to → LeadsOn image net from to
way-leads image entry graphs layout net from to laid of way =
    let has = of.places.whole way.context way.position from way.node way.spot in
    let is = node-is image entry graphs layout way.context way.position way.node from laid way.spot in
    let leads = leads-to image entry graphs layout net way.context way.node way.spot.has.of.target to of is way.leads in
    record {
      place = has.place;
      there = has.there;
      unit = is.unit;
      stands = subst (λ (a : ℕ). unit_at image a ≡ Stands is.unit) (sym has.same) is.stands;
      leads = subst (λ (k : ℕ). LeadsTo image net is.unit k has.place.address to) (sym has.within)
          (subst (λ (a : ℕ). LeadsTo image net is.unit way.context a to) (sym has.same) leads);
    }

-- And the other way round.
to-leads : (image : Image) (entry : ℕ) (graphs : Graphs) (layout : Layout) (net : Net) (context : ℕ) (node : Node) (function to : ℕ) →
    IsNetOf graphs layout net → (is : IsNode image function node) → LeadsTo image net is.unit context node.address to →
    Leads graphs.graphs layout context node to
to-leads image entry graphs layout net context node function to of is (leads_goes _ later among at) =
    goes to later (ways-of image function node later is among) (place-number graphs layout net context later to of at)
to-leads image entry graphs layout net context node function to of is (leads_calls _ made callee among later there at) =
    enters to callee (is.described.calls.whole callee (record { unit = is.unit; stands = is.stands; called = among })) (record {
      made = made;
      is = record {
        later = later;
        there = subst (λ (all : List Context). slice_get all made ≡ Some (made_by context node.address callee)) of.contexts there;
      };
      at = place-number graphs layout net made callee to of at;
    })
to-leads image entry graphs layout net context node function to of is (comes_back _ caller leaving later there at) =
    comes to (is.described.returns ∙ leaving) (inr (record {
      later = later;
      of = caller;
      there = subst (λ (all : List Context). slice_get all context ≡ Some caller) of.contexts there;
      at = place-number graphs layout net caller.parent (caller.site + 8) to of at;
    }))
to-leads image entry graphs layout net context node function _ of is (ends leaving first) =
    comes 0 (is.described.returns ∙ leaving) (inl (first, refl))

leads-way : (image : Image) (entry : ℕ) (graphs : Graphs) (layout : Layout) (net : Net) (from to : ℕ) → IsLaidProgram image entry graphs layout →
    IsNetOf graphs layout net → LeadsOn image net from to → IsWay graphs.graphs layout from to
leads-way image entry graphs layout net from to laid of on =
    let placed = of.places.each from on.place on.there in
    let is = node-is image entry graphs layout on.place.context placed.position placed.node from laid placed.spot in
    let at : unit_at image placed.node.address ≡ Stands on.unit = subst (λ (a : ℕ). unit_at image a ≡ Stands on.unit) placed.same on.stands in
    let unit : on.unit ≡ is.unit = same-unit image placed.node.address is.unit on.unit is.stands at in
    let leads : LeadsTo image net is.unit on.place.context placed.node.address to =
    subst (λ (u : CodeUnit). LeadsTo image net u on.place.context placed.node.address to) unit
    (subst (λ (a : ℕ). LeadsTo image net on.unit on.place.context a to) placed.same on.leads) in
    record {
      context = on.place.context;
      position = placed.position;
      node = placed.node;
      spot = placed.spot;
      leads = to-leads image entry graphs layout net on.place.context placed.node placed.spot.has.of.target to of is leads;
    }

pub has-arcs : (image : Image) (entry : ℕ) (graphs : Graphs) (layout : Layout) (net : Net) → IsLaidProgram image entry graphs layout →
    IsNetOf graphs layout net → AreAllArcs graphs.graphs layout net.arcs → HasArcs image entry net
has-arcs image entry graphs layout net laid of all = record {
  first = (
    arc_to 0 arcs.first,
    ap (λ (given : List NetArc). item_at 1 given) arcs.is,
    refl,
    subst (λ (a : ℕ). IsPlaceOf net arcs.first 0 a) begins
        (number-place graphs layout net 0 arcs.at.of.target arcs.first of arcs.at.at),
  );
  ways = λ number arc there later. way number arc (subst (λ (given : List NetArc). item_at number given ≡ Some arc) arcs.is there) later;
  arcs = λ from to leads. arc from to leads;
  order = subst (λ (given : List NetArc). AllPairs IsArcBefore (drop 1 given)) (sym arcs.is) arcs.ways.order;
} where
  arcs : AreArcs graphs.graphs layout all.next net.arcs
  arcs = all.are

  begins : arcs.at.of.target ≡ entry
  begins = ap (λ (c : Context). c.target) (one-at layout.contexts.keys 0 arcs.at.of (root entry) arcs.at.there laid.layout_is.contexts.first)

  way : (number : ℕ) (a : NetArc) → item_at number (arc_to 0 arcs.first ∷ arcs.rest) ≡ Some a → 1 < number → LeadsOn image net a.from a.to
  way zero a there later = absurd (omega (arith, later))
  way (suc zero) a there later = absurd (omega (arith, later))
  way (suc (suc k)) a there later =
      way-leads image entry graphs layout net a.from a.to laid of
      (all-at (λ (b : NetArc). (b.from < all.next) × IsWay graphs.graphs layout b.from b.to) arcs.rest k a arcs.ways.sound there).1

  arc : (from to : ℕ) → LeadsOn image net from to →
      (number : ℕ) × (1 < number) × (item_at number net.arcs ≡ Some (record { from = from; to = to }))
  arc from to leads =
      let is = leads-way image entry graphs layout net from to laid of leads in
      let below = spot-below graphs.graphs layout is.context is.position is.node from all.next laid.layout_is.laid is.spot all.last in
      let (k, inside, same) = arcs.ways.whole from to below is in (
        suc (suc k),
        omega arith,
        subst (λ (given : List NetArc). item_at (suc (suc k)) given ≡ Some (arc_to from to)) (sym arcs.is)
            (slice_get-get_or arcs.rest k (arc_to from to) inside ∙ ap (λ (b : NetArc). Some b) same),
      )
