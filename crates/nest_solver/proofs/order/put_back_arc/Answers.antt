use Rattle.std.proofs.Common.{ℕ, ◌+◌, List, length, set, subst, sym, arith}
use Rattle.nest_solver.specs.Nets.{entry}
use Rattle.nest_solver.specs.Orders.{IsOpening, arcs_of}
use Rattle.nest_solver.proofs.Puts.{puts-set}
use Rattle.nest_solver.proofs.Opens.{opening-back, opening-pass}
use Rattle.nest_solver.proofs.order.put_back_arc.Goals as goal

pub returns-then-not-backs-arc : goal.returns-then-not-backs-arc
returns-then-not-backs-arc c = record {
  onward = λ left was. opening-pass (arcs_of c.args.net.now c.args.backs.now) c.args.order.now.items (entry c.args.place.now)
      left c.args.arc c.if-not-backs-arc.true was;
}

pub returns : goal.returns
returns c = record {
  onward = λ left was.
      let a = arcs_of c.args.net.now c.args.backs.now in
      let place2 = set c.args.place.now c.args.arc (length c.args.order.now.items + 1) in
      subst (λ (place : List ℕ). IsOpening a c.put.new.order.items (entry place) left 0 (c.args.arc + 1) 0 0 0)
      (sym c.in_ok-put.ensures.placed)
      (subst (λ (order : List ℕ). IsOpening a order (entry place2) left 0 (c.args.arc + 1) 0 0 0)
      (sym c.in_ok-put.ensures.pushed)
      (opening-back a c.args.order.now.items (entry c.args.place.now) (entry place2) left c.args.arc c.requires.arc
      c.if-not-backs-arc.false
      (puts-set c.args.place.now c.args.arc (length c.args.order.now.items + 1)
      (omega (arith, c.requires.arc, c.requires.place))) was));
}
