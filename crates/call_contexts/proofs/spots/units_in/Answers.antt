-- The graph of a context stands at the position that the layout gives.
use Rattle.std.proofs.Common.{◌≡◌, List, length, get_or, ap, ◌∙◌, arith}
use Rattle.std.proofs.lemmas.Option.{get_or_from_slice_get}
use Rattle.unit_graph.specs.declared.graph.Graph.{Graph}
use Rattle.call_contexts.proofs.SpotNumbers.{position-read, position-within}
use Rattle.call_contexts.proofs.spots.units_in.Goals as goal

pub returns : goal.returns
returns c =
    let graphs = c.args.graphs.now.graphs in
    let its = c.requires.laid.each c.args.context c.requires.context in
    let place = position-read graphs c.args.layout.now c.args.context c.index-position.result.now its.0 its.1 c.index-position.ensures in
    let read : get_or graphs its.1.position c.index-as_slice-position.result ≡ its.0 =
    get_or_from_slice_get graphs its.1.position its.0 c.index-as_slice-position.result its.1.is in
    let graph : get_or c.as_slice.result.now c.index-position.result.now c.index-as_slice-position.result ≡ its.0 =
    cc (read, place, c.as_slice.ensures) in (
      its.0,
      its.1,
      c.as_slice-2.ensures ∙ ap (λ (g : Graph). g.units) graph,
    )

pub bounds-as_slice-position : goal.bounds-as_slice-position
bounds-as_slice-position c =
    let its = c.requires.laid.each c.args.context c.requires.context in
    omega (
      arith,
      position-within c.args.graphs.now.graphs c.args.layout.now c.args.context c.index-position.result.now its.0 its.1 c.index-position.ensures,
      ap (λ (gs : List Graph). length gs) c.as_slice.ensures,
    )

pub offset_bounds-as_slice-position : goal.offset_bounds-as_slice-position
offset_bounds-as_slice-position c =
    let its = c.requires.laid.each c.args.context c.requires.context in
    omega (
      arith,
      position-within c.args.graphs.now.graphs c.args.layout.now c.args.context c.index-position.result.now its.0 its.1 c.index-position.ensures,
      ap (λ (gs : List Graph). length gs) c.as_slice.ensures,
    )
