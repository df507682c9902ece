use Rattle.std.proofs.Common.{ℕ, ◌∙◌, length, ap, subst, sym, arith}
use Rattle.nest_solver.specs.Nets.{entry}
use Rattle.nest_solver.specs.Orders.{IsOpening, arcs_of}
use Rattle.nest_solver.specs.Shape.{IsUpTo}
use Rattle.nest_solver.proofs.Puts.{entry-read}
use Rattle.nest_solver.proofs.Upward.{chain-first, chain-next}
use Rattle.nest_solver.proofs.order.open.Goals as goal

pub loop-arc-init : goal.loop-arc-init
loop-arc-init c =
    let a = arcs_of c.args.net.now c.args.backs.now in
    let arrivals = c.args.arrivals.now in
    let read = entry-read arrivals.heads.items c.args.to c.index-arc.result.now
    (omega (arith, c.requires.to, c.requires.arrivals.heads)) c.index-arc.ensures in
    let start = chain-first (length c.args.net.now.arcs) c.args.to a.to (entry arrivals.heads.items)
    (entry arrivals.next.items) c.requires.arrivals.chains in
    record {
      within = omega (arith, read, start.0);
      goes = λ some. ap a.to read ∙ start.1 (omega (arith, read, some));
      onward = λ left done first low none below was.
          subst (λ (at : ℕ). IsOpening a c.args.order.now.items (entry c.args.place.now) left done first low c.args.to at)
          (sym read) was;
    }

pub loop-arc-preserved : goal.loop-arc-preserved
loop-arc-preserved c =
    let a = arcs_of c.args.net.now c.args.backs.now in
    let arrivals = c.args.arrivals.now in
    let arc = c.loop-arc.arc in
    let up : IsUpTo (length c.args.net.now.arcs) arc = (omega (arith, c.loop-arc-test.true), c.loop-arc.invariant.within) in
    let read = entry-read arrivals.next.items arc c.index-arc-in-loop-arc.result.now
    (omega (arith, up, c.requires.arrivals.next)) c.index-arc-in-loop-arc.ensures in
    let onward = chain-next (length c.args.net.now.arcs) arc a.to (entry arrivals.heads.items)
    (entry arrivals.next.items) up c.requires.arrivals.chains in
    let goes = c.loop-arc.invariant.goes (omega (arith, up)) in
    record {
      within = omega (arith, read, onward.0);
      goes = λ some. ap a.to read ∙ onward.1 (omega (arith, read, some)) ∙ goes;
      onward = λ left done first low none below was.
          subst (λ (at : ℕ). IsOpening a c.put_forward.new.order.items (entry c.put_forward.new.place) left done first low
          c.args.to at) (sym read)
          (c.in_ok-put_forward.ensures.onward left done first low c.args.to goes none below
          (c.loop-arc.invariant.onward left done first low none below was));
    }

pub returns : goal.returns
returns c = record {
  opened = λ left done first low none below was.
      subst (λ (at : ℕ). IsOpening (arcs_of c.args.net.now c.args.backs.now) c.loop-arc.order.items (entry c.loop-arc.place)
      left done first low c.args.to at) (omega (arith, c.loop-arc-test.false))
      (c.loop-arc.invariant.onward left done first low none below was);
}
