use Rattle.std.proofs.Common.{◌+◌, length, arith}
use Rattle.nest_solver.specs.Nets.{entry}
use Rattle.nest_solver.specs.Orders.{arcs_of}
use Rattle.nest_solver.proofs.Opens.{opening-any, opening-first}
use Rattle.nest_solver.proofs.order.open_if_done.Goals as goal

pub returns : goal.returns
returns c = record {
  opening =
      let a = arcs_of c.args.net.now c.args.backs.now in
      let first = length c.args.net.now.arcs + 1 in
      opening-any a c.open.new.order.items (entry c.open.new.place) (entry c.args.left.now) 0 first (c.args.to + 1) c.args.to
      (c.in_ok-open.ensures.opened (entry c.args.left.now) 0 first (c.args.to + 1)
      (omega (arith, c.if-left-to-ne0.false)) (omega arith)
      (opening-first a c.args.order.now.items (entry c.args.place.now) (entry c.args.left.now)
      (entry c.args.arrivals.now.heads.items) (entry c.args.arrivals.now.next.items) 0 first c.args.to
      c.requires.arrivals.chains c.requires.opening));
}
