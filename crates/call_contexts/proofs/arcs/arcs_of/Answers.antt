-- Each unit adds the arcs to its targets.
use Rattle.std.proofs.Common.{◌≡◌, ◌+◌, ◌*◌, ◌++◌, ◌∷◌, [], ℕ, suc, List, length, take, slice_get, Some, sym, ap, subst, ◌∙◌, arith}
use Rattle.std.specs.Prelude.{sum_by}
use Rattle.flow_net.specs.declared.net.NetArc.{NetArc}
use Rattle.unit_graph.specs.declared.node.Unit.{Unit as Node}
use Rattle.call_contexts.specs.Arcs.{AreArcs, arc_to, arcs_from}
use Rattle.call_contexts.proofs.ArcCounts.{AreCounted, counted-all, counted-more, counted-none, counted-room, room-full, room-more}
use Rattle.call_contexts.proofs.SpotNumbers.{base-read, one-at, units-few}
use Rattle.call_contexts.proofs.Laying.{unit-spot}
use Rattle.call_contexts.proofs.Leading.{arcs-more, arcs-none}
use Rattle.call_contexts.proofs.WayCounts.{weight}
use Rattle.call_contexts.proofs.arcs.arcs_of.Goals as goal

pub loop-context-init : goal.loop-context-init
loop-context-init c =
    let (image, entry, laid) = c.requires.program in
    let graphs = c.args.graphs.now.graphs in
    let layout = c.args.layout.now in
    let one : c.push.new.self.items ≡ arc_to 0 c.first_place.result ∷ [] =
    c.in_ok-push.ensures.items ∙ ap (λ (arcs : List NetArc). arcs ++ arc_to 0 c.first_place.result ∷ []) c.new-arcs.ensures.items in (
      1,
      laid.layout_is.laid.first,
      arcs-none graphs layout c.first_place.result c.push.new.self.items laid.layout_is.laid c.first_place.ensures one,
      counted-none graphs layout 1 (1 * 260) c.first_place.result c.push.new.self.items one,
    )

pub loop-position-init : goal.loop-position-init
loop-position-init c =
    let (image, entry, laid) = c.requires.program in
    let graphs = c.args.graphs.now.graphs in
    let layout = c.args.layout.now in
    let (graph, has, same) = c.units_in-units.ensures in
    let (base, begins, arcs, counted) = c.loop-context.invariant in
    let read = base-read graphs layout c.loop-context.context c.index-base.result.now graph laid.layout_is.laid has c.index-base.ensures in
    let equal : base ≡ c.index-base.result.now = one-at layout.bases.items c.loop-context.context base c.index-base.result.now begins read in
    let limit : base ≡ c.index-base.result.now + 0 = omega (arith, equal) in
    let room : base * 260 ≡ c.index-base.result.now * 260 + 0 = omega (arith, equal) in (
      subst (λ (n : ℕ). AreArcs graphs layout n c.loop-context.arcs.items) limit arcs,
      subst (λ (n : ℕ). AreCounted graphs layout (c.index-base.result.now + 0) n c.loop-context.arcs.items) room
          (subst (λ (n : ℕ). AreCounted graphs layout n (base * 260) c.loop-context.arcs.items) limit counted),
    )

pub targets_of-requires-clause-spot : goal.targets_of-requires-clause-spot
targets_of-requires-clause-spot c =
    let (image, entry, laid) = c.requires.program in
    let graphs = c.args.graphs.now.graphs in
    let layout = c.args.layout.now in
    let (graph, has, same) = c.units_in-units.ensures in
    let read = base-read graphs layout c.loop-context.context c.index-base.result.now graph laid.layout_is.laid has c.index-base.ensures in (
      c.loop-position.position,
      c.index-base.result.now + c.loop-position.position,
      unit-spot graphs layout c.loop-context.context c.index-base.result.now c.loop-position.position graph c.units_in-units.result.now
          c.index-units-position.result has read same c.loop-position-test.true c.index-units-position.is,
    )

pub overflow_add-base : goal.overflow_add-base
overflow_add-base c =
    let (image, entry, laid) = c.requires.program in
    let graphs = c.args.graphs.now.graphs in
    let layout = c.args.layout.now in
    let (graph, has, same) = c.units_in-units.ensures in
    let read = base-read graphs layout c.loop-context.context c.index-base.result.now graph laid.layout_is.laid has c.index-base.ensures in
    omega (
      arith,
      units-few graphs layout c.loop-context.context c.index-base.result.now graph laid.layout_is.laid has read,
      c.loop-position-test.true,
      ap (λ (nodes : List Node). length nodes) same,
    )

pub loop-position-preserved : goal.loop-position-preserved
loop-position-preserved c =
    let (image, entry, laid) = c.requires.program in
    let graphs = c.args.graphs.now.graphs in
    let layout = c.args.layout.now in
    let (graph, has, same) = c.units_in-units.ensures in
    let base : ℕ = c.index-base.result.now in
    let position : ℕ = c.loop-position.position in
    let unit : Node = c.index-units-position.result in
    let units : List Node = c.units_in-units.result.now in
    let targets : List ℕ = c.in_ok-targets.targets.items in
    let read = base-read graphs layout c.loop-context.context base graph laid.layout_is.laid has c.index-base.ensures in
    let spot = unit-spot graphs layout c.loop-context.context base position graph units unit has read same c.loop-position-test.true
    c.index-units-position.is in
    let added : c.add_arcs.new.arcs.items ≡ c.loop-position.arcs.items ++ arcs_from (base + position) targets =
    c.in_ok-add_arcs.ensures ∙ ap (λ (ts : List ℕ). c.loop-position.arcs.items ++ arcs_from (base + position) ts) c.deref.ensures.value in
    let next : suc (base + position) ≡ base + (position + 1) = omega arith in
    let arcs = arcs-more graphs layout c.loop-context.context position unit (base + position) targets c.loop-position.arcs.items
    laid.layout_is.laid spot c.in_ok-targets.ensures c.loop-position.invariant.0 in
    let counted = counted-more image entry c.args.graphs.now layout c.loop-context.context position unit (base + position)
    (base * 260 + sum_by weight (take position units)) targets c.loop-position.arcs.items laid spot c.in_ok-targets.ensures
    c.loop-position.invariant.1 in
    let room = room-more base position units unit c.loop-position-test.true c.index-units-position.is in
    subst (λ (all : List NetArc). AreArcs graphs layout (base + (position + 1)) all
    × AreCounted graphs layout (base + (position + 1)) (base * 260 + sum_by weight (take (position + 1) units)) all) (sym added) (
      subst (λ (n : ℕ). AreArcs graphs layout n (c.loop-position.arcs.items ++ arcs_from (base + position) targets)) next arcs,
      subst (λ (n : ℕ). AreCounted graphs layout n (base * 260 + sum_by weight (take (position + 1) units))
          (c.loop-position.arcs.items ++ arcs_from (base + position) targets)) next
          (subst (λ (n : ℕ). AreCounted graphs layout (suc (base + position)) n (c.loop-position.arcs.items ++ arcs_from (base + position) targets))
          room counted),
    )

pub loop-context-preserved : goal.loop-context-preserved
loop-context-preserved c =
    let (image, entry, laid) = c.requires.program in
    let graphs = c.args.graphs.now.graphs in
    let layout = c.args.layout.now in
    let (graph, has, same) = c.units_in-units.ensures in
    let base : ℕ = c.index-base.result.now in
    let position : ℕ = c.loop-position.position in
    let read = base-read graphs layout c.loop-context.context base graph laid.layout_is.laid has c.index-base.ensures in
    let all : base + position ≡ base + length graph.units =
    omega (arith, c.loop-position-test.false, c.loop-position.auto, ap (λ (nodes : List Node). length nodes) same) in
    let next : suc c.loop-context.context ≡ c.loop-context.context + 1 = omega arith in
    let arcs = subst (λ (n : ℕ). AreArcs graphs layout n c.loop-position.arcs.items) all c.loop-position.invariant.0 in
    let counted = counted-room graphs layout (base + position) (base * 260 + sum_by weight (take position c.units_in-units.result.now))
    ((base + length graph.units) * 260) c.loop-position.arcs.items
    (room-full image entry c.args.graphs.now layout c.loop-context.context base position graph c.units_in-units.result.now laid has same)
    c.loop-position.invariant.1 in (
      base + length graph.units,
      subst (λ (n : ℕ). slice_get layout.bases.items n ≡ Some (base + length graph.units)) next
          (laid.layout_is.laid.next c.loop-context.context base graph has read),
      arcs,
      subst (λ (n : ℕ). AreCounted graphs layout n ((base + length graph.units) * 260) c.loop-position.arcs.items) all counted,
    )

pub returns-clause-few : goal.returns-clause-few
returns-clause-few c =
    let (image, entry, laid) = c.requires.program in
    let (base, begins, arcs, counted) = c.loop-context.invariant in
    let all : c.loop-context.context ≡ length c.args.layout.now.contexts.keys =
    omega (arith, c.loop-context-test.false, c.len-context-end.ensures, laid.layout_is.laid.functions) in
    counted-all c.args.graphs.now.graphs c.args.layout.now base c.loop-context.arcs.items laid.layout_is.laid
    (subst (λ (n : ℕ). slice_get c.args.layout.now.bases.items n ≡ Some base) all begins) counted
