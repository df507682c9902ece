use Rattle.std.proofs.Common.{ℕ, ◌+◌, List, length, sym, subst}
use Rattle.nest_solver.specs.Nets.{entry}
use Rattle.nest_solver.specs.Orders.{IsOpening, arcs_of}
use Rattle.nest_solver.proofs.Opens.{opening-none}
use Rattle.nest_solver.proofs.order.fill.Goals as goal

pub open_ends-requires-clause-opening : goal.open_ends-requires-clause-opening
open_ends-requires-clause-opening c =
    let a = arcs_of c.args.net.now c.args.backs.now in
    let first = length c.args.net.now.arcs + 1 in
    subst (λ (left : List ℕ). IsOpening a c.put_backs.new.order.items (entry c.put_backs.new.place) (entry left) 0 first 0 0 0)
    (sym c.deref.ensures.value)
    (c.in_ok-put_backs.ensures.backs (entry c.in_ok-left.left.items)
    (subst (λ (order : List ℕ). IsOpening a order (entry c.args.place.now) (entry c.in_ok-left.left.items) 0 1 0 0 0)
    (sym c.requires.empty)
    (opening-none a (entry c.args.place.now) (entry c.in_ok-left.left.items) c.requires.fresh
    c.in_ok-left.ensures.left.counts c.in_ok-left.ensures.left.zero)))
