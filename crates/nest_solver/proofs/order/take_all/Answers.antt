use Rattle.std.proofs.Common.{◌<◌, length, arith}
use Rattle.nest_solver.specs.Nets.{entry}
use Rattle.nest_solver.specs.Orders.{arcs_of}
use Rattle.nest_solver.proofs.Opens.{opening-order}
use Rattle.nest_solver.proofs.Queues.{queue-short}
use Rattle.nest_solver.proofs.order.take_all.Goals as goal

pub loop-at-smaller : goal.loop-at-smaller
loop-at-smaller c =
    let short = queue-short (arcs_of c.args.net.now c.args.backs.now) c.loop-at.order.items (entry c.loop-at.place)
    (entry c.loop-at.left) c.loop-at.at c.loop-at.invariant.queue in
    let less : c.loop-at.at < length c.loop-at.order.items = omega (arith, c.loop-at-test.true, c.len.ensures, c.loop-at.order.ok.0) in
    omega (arith, short, less)

pub returns : goal.returns
returns c = record {
  order = opening-order (arcs_of c.args.net.now c.args.backs.now) (length c.args.net.now.places) c.loop-at.at
      c.loop-at.order.items (entry c.loop-at.place) (entry c.loop-at.left) c.requires.acyclic c.loop-at.invariant
      (omega (arith, c.loop-at-test.false, c.len.ensures, c.loop-at.order.ok.0));
}
