use Rattle.std.proofs.Common.{ℕ, Bool, List, length, subst, sym}
use Rattle.nest_solver.specs.Nets.{entry}
use Rattle.nest_solver.specs.Orders.{AreAcyclic, arcs_of}
use Rattle.nest_solver.specs.Tables.{AreBacks}
use Rattle.nest_solver.proofs.Plains.{acyclic-backs}
use Rattle.nest_solver.proofs.tables.tables_of.Goals as goal

pub order_of-requires-clause-acyclic : goal.order_of-requires-clause-acyclic
order_of-requires-clause-acyclic c =
    let net = c.args.net.now in
    subst (λ (backs : List Bool). AreAcyclic (arcs_of net backs) (length net.places)) (sym c.deref-2.ensures.value)
    (acyclic-backs net (entry c.in_ok-scopes.scopes.depths.items) (entry c.in_ok-headed.headed.items)
    c.in_ok-backs.backs.items c.requires.nested c.in_ok-scopes.ensures.scopes.depths c.in_ok-headed.ensures.headers
    (subst (λ (headed : List ℕ). AreBacks net (entry headed) c.in_ok-backs.backs.items) c.deref.ensures.value
    c.in_ok-backs.ensures.backs))
