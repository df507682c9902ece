-- Each arc brings the outcome to its end.
use Rattle.std.specs.Prelude.{ℕ, ◌+◌, ◌<◌, drop, length, List}
use Rattle.std.proofs.Common.{arith, get_or, subst}
use Rattle.std.proofs.lemmas.List.{drop_all, drop_more}
use Rattle.flow_net.specs.declared.net.NetArc.{NetArc}
use Rattle.flow_net.proofs.Numbers.{item_at-all}
use Rattle.fixpoint.specs.Steps.{IsSpread}
use Rattle.fixpoint.proofs.Spreading.{in_at, spread_begins, spread_goes}
use Rattle.fixpoint.proofs.solving.spread.Goals as goal

pub loop-number-init : goal.loop-number-init
loop-number-init g c =
    let t = c.args.transfer.now in
    let s = g.T.Transfer.shape t in
    spread_begins (λ x. g.D.Lattice.has x s) g.D.Lattice.leq g.D.Lattice.joined g.D.Widen.widened g.D.Height.rank
    g.D.Height.height (g.T.Transfer.moved t) c.args.arcs.now (g.met.D.Lattice.lattice.on s) (g.met.D.Height.ranked.on s)
    (g.met.D.Widen.widening.on s) c.args.after.now c.args.numbers.now c.args.values.now c.args.waiting.now c.requires.slots
    (λ n is. (g.met.T.Transfer.moves t).kept n c.args.after.now (c.requires.numbers n is).1 c.requires.shaped)

pub go_along-requires-clause-number : goal.go_along-requires-clause-number
go_along-requires-clause-number g c =
    (c.requires.numbers (get_or c.args.numbers.now c.loop-number.number-index 0)
    (in_at c.args.numbers.now c.loop-number.number-index (omega arith))).0

pub go_along-requires-clause-served : goal.go_along-requires-clause-served
go_along-requires-clause-served g c =
    (c.requires.numbers (get_or c.args.numbers.now c.loop-number.number-index 0)
    (in_at c.args.numbers.now c.loop-number.number-index (omega arith))).1

pub loop-number-preserved : goal.loop-number-preserved
loop-number-preserved g c =
    let t = c.args.transfer.now in
    let s = g.T.Transfer.shape t in
    let ns = c.args.numbers.now in
    let i = c.loop-number.number-index in
    let within : i < length ns = omega arith in
    let spread = c.loop-number.invariant in
    spread_goes (λ x. g.D.Lattice.has x s) g.D.Lattice.leq g.D.Lattice.joined g.D.Widen.widened g.D.Height.rank
    g.D.Height.height (g.T.Transfer.moved t) c.args.arcs.now (g.met.D.Lattice.lattice.on s) (g.met.D.Height.ranked.on s)
    (g.met.D.Widen.widening.on s) c.args.after.now ns c.args.values.now c.args.waiting.now c.requires.slots
    (λ n is. (g.met.T.Transfer.moves t).kept n c.args.after.now (c.requires.numbers n is).1 c.requires.shaped)
    (get_or ns i 0) (drop (i + 1) ns) c.loop-number.values c.loop-number.waiting c.go_along.new.values c.go_along.new.waiting
    (subst (λ (rest : List ℕ). IsSpread (λ x. g.D.Lattice.has x s) g.D.Lattice.leq g.D.Widen.widened g.D.Height.rank
    g.D.Height.height (g.T.Transfer.moved t) c.args.arcs.now c.args.after.now ns rest c.args.values.now
    c.args.waiting.now c.loop-number.values c.loop-number.waiting) (drop_more ns i 0 within) spread)
    (in_at ns i within)
    (omega (arith, spread.follows.size, spread.follows.sizes, c.requires.sized))
    (λ arc at. omega (
      arith,
      spread.follows.size,
      item_at-all (λ (a : NetArc). a.to < length c.args.values.now) c.args.arcs.now (get_or ns i 0) arc c.requires.ends at,
    ))
    c.in_ok-go_along.ensures

pub returns : goal.returns
returns g c =
    let t = c.args.transfer.now in
    let s = g.T.Transfer.shape t in
    subst (λ (rest : List ℕ). IsSpread (λ x. g.D.Lattice.has x s) g.D.Lattice.leq g.D.Widen.widened g.D.Height.rank
    g.D.Height.height (g.T.Transfer.moved t) c.args.arcs.now c.args.after.now c.args.numbers.now rest c.args.values.now
    c.args.waiting.now c.loop-number.values c.loop-number.waiting)
    (drop_all c.loop-number.number-index c.args.numbers.now (omega arith)) c.loop-number.invariant
