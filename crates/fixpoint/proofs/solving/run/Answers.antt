-- A place that waits has a state, and its turn keeps what held.
use Rattle.std.specs.Prelude.{◌<◌, Bool, false, List, map, length, slice_set}
use Rattle.std.proofs.Common.{◌∙◌, arith, subst, sym}
use Rattle.std.proofs.lemmas.Option.{get_or_from_slice_get}
use Rattle.domain_laws.specs.Options.{option_ok}
use Rattle.flow_net.specs.declared.net.NetArc.{NetArc}
use Rattle.flow_net.proofs.Numbers.{item_at-all}
use Rattle.net_tables.specs.Numbers.{numbers_of}
use Rattle.fixpoint.specs.Steps.{Holds, IsIn}
use Rattle.fixpoint.specs.Values.{value_of}
use Rattle.fixpoint.proofs.Running.{leaves, none_told, number_of, spread_at, state_of, turned}
use Rattle.fixpoint.proofs.solving.run.Goals as goal

pub spread-requires-clause-numbers : goal.spread-requires-clause-numbers
spread-requires-clause-numbers g c =
    let froms = map (λ (arc : NetArc). arc.from) c.args.arcs.now in
    let holds = c.loop-place.invariant.kept c.requires.going.0 c.requires.going.1 c.requires.going.2 in
    let inside : c.in-Some.place < length c.args.values.now = omega (arith, c.in-Some.ensures.some.0, holds.sizes) in
    let e = c.as_slice-numbers.ensures ∙ c.index-out-place.is ∙
    get_or_from_slice_get c.args.out.now c.in-Some.place (numbers_of c.in-Some.place 1 froms) c.index-out-place.result
    (c.requires.out c.in-Some.place inside) in
    λ number is.
    let known = (leaves c.args.arcs.now c.in-Some.place number (subst (IsIn number) e is)).0 in
    (known, c.requires.numbers number known)

pub spread-requires-clause-shaped : goal.spread-requires-clause-shaped
spread-requires-clause-shaped g c =
    let t = c.args.transfer.now in
    let s = g.T.Transfer.shape t in
    let place = c.in-Some.place in
    let holds = c.loop-place.invariant.kept c.requires.going.0 c.requires.going.1 c.requires.going.2 in
    let inside : place < length c.args.values.now = omega (arith, c.in-Some.ensures.some.0, holds.sizes) in
    let has = state_of (value_of c.loop-place.values place) (holds.queued place c.in-Some.ensures.some.1) in
    subst (λ (x : g.row.D.Denot). g.D.Lattice.has x s) (sym (c.in_ok-after.ensures has.state has.there))
    ((g.met.T.Transfer.steps t).kept place has.state
    (c.requires.places place (holds.placed place c.in-Some.ensures.some.1) inside)
    (subst (option_ok (λ (x : g.row.D.Denot). g.D.Lattice.has x s)) has.there (holds.shaped place)))

pub loop-place-preserved : goal.loop-place-preserved
loop-place-preserved g c =
    let t = c.args.transfer.now in
    let s = g.T.Transfer.shape t in
    let arcs = c.args.arcs.now in
    let froms = map (λ (arc : NetArc). arc.from) arcs in
    let place = c.in-Some.place in
    let waited = c.in-Some.ensures.some.1 in
    let holds = c.loop-place.invariant.kept c.requires.going.0 c.requires.going.1 c.requires.going.2 in
    let inside : place < length c.args.values.now = omega (arith, c.in-Some.ensures.some.0, holds.sizes) in
    let has = state_of (value_of c.loop-place.values place) (holds.queued place waited) in
    let e = c.as_slice-numbers.ensures ∙ c.index-out-place.is ∙
    get_or_from_slice_get c.args.out.now place (numbers_of place 1 froms) c.index-out-place.result
    (c.requires.out place inside) in
    let spread = spread_at (λ x. g.D.Lattice.has x s) g.D.Lattice.leq g.D.Widen.widened g.D.Height.rank g.D.Height.height
    (g.T.Transfer.moved t) arcs c.loop-place.values c.spread.new.values c.spread.new.waiting c.in_ok-after.after
    (g.T.Transfer.stepped t place has.state) c.as_slice-numbers.result.now (numbers_of place 1 froms)
    c.take.new.self (slice_set c.loop-place.waiting place false)
    (c.in_ok-after.ensures has.state has.there) e c.in-Some.ensures.some.2 c.in_ok-spread.ensures in
    record {
      size = spread.follows.size ∙ c.loop-place.invariant.size;
      kept = λ start ok begun.
          turned (λ x. g.D.Lattice.has x s) g.D.Lattice.leq g.D.Lattice.joined g.D.Widen.widened g.D.Height.rank
          g.D.Height.height (g.T.Transfer.stepped t) (g.T.Transfer.moved t) arcs (length c.args.values.now)
          (g.met.D.Lattice.lattice.on s)
          (λ number arc y at from fits. (g.met.T.Transfer.moves t).kept number (g.T.Transfer.stepped t arc.from y)
          (c.requires.numbers number (number_of arcs number arc at))
          ((g.met.T.Transfer.steps t).kept arc.from y
          (c.requires.places arc.from from
          (item_at-all (λ (a : NetArc). a.from < length c.args.values.now) arcs number arc c.requires.starts at))
          fits))
          c.loop-place.values c.loop-place.waiting place has.state waited has.there c.in-Some.ensures.some.0
          (holds.placed place waited) c.spread.new.values c.spread.new.waiting spread start ok
          (c.loop-place.invariant.kept start ok begun);
    }

pub returns-clause-kept : goal.returns-clause-kept
returns-clause-kept g c =
    let t = c.args.transfer.now in
    let s = g.T.Transfer.shape t in
    let stays = none_told _ c.take.result c.in_default.not-Some c.take.ensures.none in
    λ start ok begun.
    subst (λ (ms : List Bool). Holds (λ (x : g.row.D.Denot). g.D.Lattice.has x s) g.D.Lattice.leq g.D.Widen.widened
    (g.T.Transfer.stepped t) (g.T.Transfer.moved t) c.args.arcs.now (length c.args.values.now) start c.loop-place.values ms)
    (sym stays.0) (c.loop-place.invariant.kept start ok begun)
