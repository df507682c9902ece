-- Each unit of the body is noted in its turn.
use Rattle.std.proofs.Common.{◌≡◌, ℕ, ◌<◌, ◌≤◌, ◌+◌, List, length, take, get_or, set, slice_get, Contains, Some, None, refl, sym, subst, arith}
use Rattle.std.proofs.lemmas.List.Elements.{Contains-get_or}
use Rattle.std.proofs.lemmas.Option.{slice_get-get_or, slice_get_read, slice_get_within}
use Rattle.call_contexts.specs.Around.{addresses_of}
use Rattle.call_contexts.specs.Layout.{HasNode}
use Rattle.call_contexts.proofs.AroundLaws.{loop-at}
use Rattle.call_contexts.proofs.AroundLists.{AreNearing, body-among, nearing-all, nearing-low, nearing-skip, nearing-write}
use Rattle.call_contexts.proofs.ScopeLists.{nearest-less}
use Rattle.call_contexts.proofs.around.note_body.Goals as goal

pub loop-address-preserved-then-address-one : goal.loop-address-preserved-then-address-one
loop-address-preserved-then-address-one c =
    let (image, entry, of, nest) = c.requires.function in
    let units = c.args.units.now in
    let loops = c.args.loops.now in
    let l = c.index-loops-position.result in
    let there : slice_get loops c.args.position ≡ Some l = slice_get_read loops (length loops) c.args.position l refl c.requires.position c.index-loops-position.is in
    let body : c.as_slice-body.result.now ≡ l.body = c.as_slice-body.ensures in
    let idx = c.loop-address.address-index in
    let inside : idx < length l.body = subst (λ (b : List ℕ). idx < length b) body c.loop-address-test.true in
    let header : get_or l.body idx 0 ≡ l.header = subst (λ (b : List ℕ). get_or b idx 0 ≡ l.header) body c.if-address-one.true in
    let before = subst (λ (b : List ℕ). AreNearing units loops c.args.position (take idx b) c.loop-address.around) body c.loop-address.invariant in
    subst (λ (b : List ℕ). AreNearing units loops c.args.position (take (idx + 1) b) c.loop-address.around) (sym body)
    (nearing-skip units loops c.args.position l c.loop-address.around idx 0 (loop-at image entry loops nest c.args.position l there).rising there inside header before)

pub position_of-place-requires-clause-there : goal.position_of-place-requires-clause-there
position_of-place-requires-clause-there c =
    let (image, entry, of, nest) = c.requires.function in
    let units = c.args.units.now in
    let loops = c.args.loops.now in
    let l = c.index-loops-position.result in
    let there : slice_get loops c.args.position ≡ Some l = slice_get_read loops (length loops) c.args.position l refl c.requires.position c.index-loops-position.is in
    let body : c.as_slice-body.result.now ≡ l.body = c.as_slice-body.ensures in
    let idx = c.loop-address.address-index in
    let inside : idx < length l.body = subst (λ (b : List ℕ). idx < length b) body c.loop-address-test.true in
    subst (λ (b : List ℕ). Contains (addresses_of units) (get_or b idx 0)) (sym body)
    (body-among image entry units loops of nest c.args.position l there (get_or l.body idx 0) (Contains-get_or l.body idx 0 inside))

pub offset_bounds-around-place : goal.offset_bounds-around-place
offset_bounds-around-place c =
    let at = c.position_of-place.ensures in
    omega (arith, slice_get_within c.args.units.now c.position_of-place.result at.node at.there, c.loop-address.invariant.count)

pub bounds-around-place : goal.bounds-around-place
bounds-around-place c =
    let at = c.position_of-place.ensures in
    omega (arith, slice_get_within c.args.units.now c.position_of-place.result at.node at.there, c.loop-address.invariant.count)

pub slice_copy_out-inner_of : goal.slice_copy_out-inner_of
slice_copy_out-inner_of c =
    let at = c.position_of-place.ensures in
    omega (arith, slice_get_within c.args.units.now c.position_of-place.result at.node at.there, c.loop-address.invariant.count)

pub inner_of-requires-clause-rising : goal.inner_of-requires-clause-rising
inner_of-requires-clause-rising c =
    let (image, entry, of, nest) = c.requires.function in
    λ k d inside. (nest.each k d inside).rising

pub inner_of-requires-clause-other : goal.inner_of-requires-clause-other
inner_of-requires-clause-other c =
    let (image, entry, of, nest) = c.requires.function in
    let units = c.args.units.now in
    let loops = c.args.loops.now in
    let l = c.index-loops-position.result in
    let there : slice_get loops c.args.position ≡ Some l = slice_get_read loops (length loops) c.args.position l refl c.requires.position c.index-loops-position.is in
    let body : c.as_slice-body.result.now ≡ l.body = c.as_slice-body.ensures in
    let idx = c.loop-address.address-index in
    let inside : idx < length l.body = subst (λ (b : List ℕ). idx < length b) body c.loop-address-test.true in
    let place = c.position_of-place.result in
    let at : HasNode units (get_or l.body idx 0) place = subst (λ (b : List ℕ). HasNode units (get_or b idx 0) place) body c.position_of-place.ensures in
    let within : place < length c.loop-address.around = omega (arith, slice_get_within units place at.node at.there, c.loop-address.invariant.count) in
    let before = subst (λ (b : List ℕ). AreNearing units loops c.args.position (take idx b) c.loop-address.around) body c.loop-address.invariant in
    nearest-less loops c.args.position (get_or l.body idx 0) (get_or c.loop-address.around place None) c.requires.position
    (nearing-low units loops c.args.position l.body c.loop-address.around idx 0 place (get_or c.loop-address.around place None)
    (loop-at image entry loops nest c.args.position l there).rising inside at
    (slice_get-get_or c.loop-address.around place None within) before)

pub offset_bounds-around-place-in-loop-address : goal.offset_bounds-around-place-in-loop-address
offset_bounds-around-place-in-loop-address c =
    let at = c.position_of-place.ensures in
    omega (arith, slice_get_within c.args.units.now c.position_of-place.result at.node at.there, c.loop-address.invariant.count)

pub loop-address-preserved : goal.loop-address-preserved
loop-address-preserved c =
    let (image, entry, of, nest) = c.requires.function in
    let units = c.args.units.now in
    let loops = c.args.loops.now in
    let l = c.index-loops-position.result in
    let there : slice_get loops c.args.position ≡ Some l = slice_get_read loops (length loops) c.args.position l refl c.requires.position c.index-loops-position.is in
    let body : c.as_slice-body.result.now ≡ l.body = c.as_slice-body.ensures in
    let idx = c.loop-address.address-index in
    let inside : idx < length l.body = subst (λ (b : List ℕ). idx < length b) body c.loop-address-test.true in
    let place = c.position_of-place.result in
    let at : HasNode units (get_or l.body idx 0) place = subst (λ (b : List ℕ). HasNode units (get_or b idx 0) place) body c.position_of-place.ensures in
    let within : place < length c.loop-address.around = omega (arith, slice_get_within units place at.node at.there, c.loop-address.invariant.count) in
    let before = subst (λ (b : List ℕ). AreNearing units loops c.args.position (take idx b) c.loop-address.around) body c.loop-address.invariant in
    subst (λ (b : List ℕ). AreNearing units loops c.args.position (take (idx + 1) b) (set c.loop-address.around place (Some c.inner_of.result))) (sym body)
    (nearing-write image entry units loops c.args.position l c.loop-address.around idx 0 place c.inner_of.result nest of (record {
      rising = (loop-at image entry loops nest c.args.position l there).rising;
      there = there;
      inside = inside;
      apart = subst (λ (b : List ℕ). get_or b idx 0 ≡ l.header → ⊥) body c.if-address-one.false;
      at = at;
      before = get_or c.loop-address.around place None;
      stood = slice_get-get_or c.loop-address.around place None within;
      inner = c.inner_of.ensures;
    }) before)

pub returns : goal.returns
returns c =
    let (image, entry, of, nest) = c.requires.function in
    let units = c.args.units.now in
    let loops = c.args.loops.now in
    let l = c.index-loops-position.result in
    let there : slice_get loops c.args.position ≡ Some l = slice_get_read loops (length loops) c.args.position l refl c.requires.position c.index-loops-position.is in
    let body : c.as_slice-body.result.now ≡ l.body = c.as_slice-body.ensures in
    let idx = c.loop-address.address-index in
    let past : length l.body ≤ idx = subst (λ (b : List ℕ). length b ≤ idx) body (omega arith) in
    let before = subst (λ (b : List ℕ). AreNearing units loops c.args.position (take idx b) c.loop-address.around) body c.loop-address.invariant in
    nearing-all units loops c.args.position l c.loop-address.around idx there past before
