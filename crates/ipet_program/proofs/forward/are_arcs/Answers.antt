-- Each arc is looked at.
use Rattle.std.proofs.Common.{◌≡◌, ℕ, ◌+◌, List, length, get_or, subst, ap, arith}
use Rattle.flow_net.specs.declared.net.NetArc.{NetArc}
use Rattle.ipet_program.specs.Forward.{EachItem, IsForwardArc}
use Rattle.ipet_program.proofs.EachItems.{each-next}
use Rattle.ipet_program.proofs.forward.are_arcs.Goals as goal

pub loop-index-preserved : goal.loop-index-preserved
loop-index-preserved c =
    let net = c.args.net.now in
    let none : NetArc = record { from = 0; to = 0 } in
    each-next (IsForwardArc net) net.arcs c.loop-index.index none
    (omega (arith, ap length c.as_slice-arcs.ensures, c.loop-index-test.true))
    c.loop-index.invariant
    (subst (λ (arcs : List NetArc). IsForwardArc net (c.loop-index.index + 1) (get_or arcs c.loop-index.index none))
    c.as_slice-arcs.ensures c.if-not-is_arc.ensures.is)

pub returns : goal.returns
returns c = record {
  arcs =
      let net = c.args.net.now in
      let all : c.loop-index.index ≡ length net.arcs = omega (arith, ap length c.as_slice-arcs.ensures) in
      subst (λ (n : ℕ). EachItem (IsForwardArc net) n net.arcs) all c.loop-index.invariant;
}
