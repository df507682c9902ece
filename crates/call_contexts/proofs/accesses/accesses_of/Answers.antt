-- Each place adds the accesses of its unit.
use Rattle.std.proofs.Common.{◌≡◌, ◌+◌, ℕ, suc, List, get_or, ap, subst, ◌∙◌, arith}
use Rattle.std.proofs.lemmas.List.{take_all}
use Rattle.std.proofs.lemmas.Option.{slice_get-get_or}
use Rattle.flow_net.specs.declared.net.Place.{Place}
use Rattle.net_model.specs.Accesses.{accesses_from}
use Rattle.call_contexts.specs.Layout.{IsSpot}
use Rattle.call_contexts.proofs.SpotNumbers.{spot-few}
use Rattle.call_contexts.proofs.LaidProgram.{node-is, unit-low}
use Rattle.call_contexts.proofs.PlaceAccesses.{accesses-next, placed-at}
use Rattle.call_contexts.proofs.accesses.accesses_of.Goals as goal

pub overflow_cast-number : goal.overflow_cast-number
overflow_cast-number c =
    let (image, entry, laid) = c.requires.program in
    let place = get_or c.args.places.now c.loop-index.index (record { context = 0; address = 0; scope = 0 }) in
    let there = slice_get-get_or c.args.places.now c.loop-index.index (record { context = 0; address = 0; scope = 0 }) c.loop-index-test.true in
    let its = placed-at c.args.graphs.now c.args.layout.now c.args.places.now c.loop-index.index place c.requires.places there in
    omega (
      arith,
      spot-few c.args.graphs.now.graphs c.args.layout.now place.context its.position its.node (suc c.loop-index.index) laid.layout_is.laid its.spot,
    )

pub overflow_add-number : goal.overflow_add-number
overflow_add-number c =
    let (image, entry, laid) = c.requires.program in
    let place = get_or c.args.places.now c.loop-index.index (record { context = 0; address = 0; scope = 0 }) in
    let there = slice_get-get_or c.args.places.now c.loop-index.index (record { context = 0; address = 0; scope = 0 }) c.loop-index-test.true in
    let its = placed-at c.args.graphs.now c.args.layout.now c.args.places.now c.loop-index.index place c.requires.places there in
    omega (
      arith,
      spot-few c.args.graphs.now.graphs c.args.layout.now place.context its.position its.node (suc c.loop-index.index) laid.layout_is.laid its.spot,
    )

pub unit_at-unit-requires-clause-there : goal.unit_at-unit-requires-clause-there
unit_at-unit-requires-clause-there c =
    let place = get_or c.args.places.now c.loop-index.index (record { context = 0; address = 0; scope = 0 }) in
    let there = slice_get-get_or c.args.places.now c.loop-index.index (record { context = 0; address = 0; scope = 0 }) c.loop-index-test.true in
    let its = placed-at c.args.graphs.now c.args.layout.now c.args.places.now c.loop-index.index place c.requires.places there in
    let number : suc c.loop-index.index ≡ c.loop-index.index + 1 = omega arith in (
      its.position,
      its.node,
      subst (λ (n : ℕ). IsSpot c.args.graphs.now.graphs c.args.layout.now place.context its.position its.node n) number its.spot,
    )

pub add_accesses-requires : goal.add_accesses-requires
add_accesses-requires c = λ slot.
    let (image, entry, laid) = c.requires.program in
    let (position, spot) = c.unit_at-unit.ensures in
    let place = get_or c.args.places.now c.loop-index.index (record { context = 0; address = 0; scope = 0 }) in
    let is = node-is image entry c.args.graphs.now c.args.layout.now place.context position c.unit_at-unit.result.now (c.loop-index.index + 1) laid spot in
    omega (arith, unit-low image c.unit_at-unit.result.now.address is.unit is.stands)

pub loop-index-preserved : goal.loop-index-preserved
loop-index-preserved c = λ image entry laid.
    let (position, spot) = c.unit_at-unit.ensures in
    let place = get_or c.args.places.now c.loop-index.index (record { context = 0; address = 0; scope = 0 }) in
    let there = slice_get-get_or c.args.places.now c.loop-index.index (record { context = 0; address = 0; scope = 0 }) c.loop-index-test.true in
    accesses-next image entry c.args.graphs.now c.args.layout.now c.args.places.now c.loop-index.index place c.unit_at-unit.result.now position
    c.loop-index.accesses.items c.add_accesses.new.accesses.items laid c.requires.places there spot
    (c.loop-index.invariant image entry laid) c.in_ok-add_accesses.ensures

pub returns : goal.returns
returns c = λ image entry laid.
    c.loop-index.invariant image entry laid
    ∙ ap (λ (places : List Place). accesses_from image 1 places)
    (take_all c.loop-index.index c.args.places.now (omega (arith, c.loop-index-test.false)))
