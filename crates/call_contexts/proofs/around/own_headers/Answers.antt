-- One header more has its own loop.
use Rattle.std.proofs.Common.{get_or, arith}
use Rattle.std.proofs.lemmas.List.Elements.{Contains-get_or}
use Rattle.std.proofs.lemmas.Option.{slice_get_within, slice_get-get_or}
use Rattle.call_contexts.proofs.AroundLists.{header-among}
use Rattle.call_contexts.proofs.ScopeLists.{own-more}
use Rattle.call_contexts.proofs.around.own_headers.Goals as goal

pub position_of-place-requires-clause-there : goal.position_of-place-requires-clause-there
position_of-place-requires-clause-there c =
    let (image, entry, of, nest) = c.requires.function in
    let loops = c.args.loops.now in
    header-among image entry c.args.units.now loops of nest (get_or loops c.loop-position.position c.index-loops-position.result)
    (Contains-get_or loops c.loop-position.position c.index-loops-position.result c.loop-position-test.true)

pub offset_bounds-numbers-place : goal.offset_bounds-numbers-place
offset_bounds-numbers-place c =
    let at = c.position_of-place.ensures in
    omega (arith, slice_get_within c.args.units.now c.position_of-place.result at.node at.there, c.loop-position.invariant.count)

pub bounds-numbers-place : goal.bounds-numbers-place
bounds-numbers-place c =
    let at = c.position_of-place.ensures in
    omega (arith, slice_get_within c.args.units.now c.position_of-place.result at.node at.there, c.loop-position.invariant.count)

pub loop-position-preserved : goal.loop-position-preserved
loop-position-preserved c =
    let (image, entry, of, nest) = c.requires.function in
    let loops = c.args.loops.now in
    let at = c.position_of-place.ensures in
    let position = c.loop-position.position in
    let one = get_or loops position c.index-loops-position.result in
    own-more c.args.units.now loops position c.loop-position.numbers one c.position_of-place.result of.rising
    (slice_get-get_or loops position c.index-loops-position.result c.loop-position-test.true) at
    (omega (arith, slice_get_within c.args.units.now c.position_of-place.result at.node at.there, c.loop-position.invariant.count))
    c.loop-position.invariant
