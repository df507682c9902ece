use Rattle.std.proofs.Common.{ℕ, ◌+◌, List, length, set, subst, sym, arith}
use Rattle.nest_solver.specs.Nets.{entry}
use Rattle.nest_solver.specs.Orders.{IsOpening, arcs_of}
use Rattle.nest_solver.proofs.Puts.{puts-set}
use Rattle.nest_solver.proofs.Opens.{opening-put, opening-skip}
use Rattle.nest_solver.proofs.order.put_forward.Goals as goal

pub returns-then-backs-arc : goal.returns-then-backs-arc
returns-then-backs-arc c = record {
  onward = λ left done first low q goes none below was.
      let a = arcs_of c.args.net.now c.args.backs.now in
      opening-skip a c.args.order.now.items (entry c.args.place.now) left (entry c.args.arrivals.now.heads.items)
      (entry c.args.arrivals.now.next.items) done first low q c.args.arc c.requires.arrivals.chains c.requires.arc goes
      c.if-backs-arc.true was;
}

pub returns : goal.returns
returns c = record {
  onward = λ left done first low q goes none below was.
      let a = arcs_of c.args.net.now c.args.backs.now in
      let place2 = set c.args.place.now c.args.arc (length c.args.order.now.items + 1) in
      subst (λ (place : List ℕ). IsOpening a c.put.new.order.items (entry place) left done first low q
      (entry c.args.arrivals.now.next.items c.args.arc)) (sym c.in_ok-put.ensures.placed)
      (subst (λ (order : List ℕ). IsOpening a order (entry place2) left done first low q
      (entry c.args.arrivals.now.next.items c.args.arc)) (sym c.in_ok-put.ensures.pushed)
      (opening-put a c.args.order.now.items (entry c.args.place.now) (entry place2) left
      (entry c.args.arrivals.now.heads.items) (entry c.args.arrivals.now.next.items) done first low q c.args.arc
      c.requires.arrivals.chains c.requires.arc goes c.if-backs-arc.false none below
      (puts-set c.args.place.now c.args.arc (length c.args.order.now.items + 1)
      (omega (arith, c.requires.arc, c.requires.place)))
      was));
}
