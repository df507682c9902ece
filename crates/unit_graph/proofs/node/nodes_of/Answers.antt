use Rattle.std.proofs.Common.{◌+◌, ◌∷◌, ◌++◌, [], ℕ, List, get_or, subst, sym, take, arith}
use Rattle.std.specs.List.{AllZip}
use Rattle.std.proofs.lemmas.List.{take_all, take_more}
use Rattle.unit_graph.specs.Graphs.{IsNodeAt}
use Rattle.unit_graph.proofs.Noting.{AllZip-push}
use Rattle.unit_graph.proofs.node.nodes_of.Goals as goal

pub loop-address-preserved : goal.loop-address-preserved
loop-address-preserved c = λ image entry are returns.
    let at = c.loop-address.address-index in
    let one = get_or c.args.addresses.now at 0 in
    let node = c.in_ok-node_at.field-0 in
    subst (AllZip (IsNodeAt image) (take (at + 1) c.args.addresses.now)) (sym c.in_ok-push.ensures.ok)
    (subst (λ (some : List ℕ). AllZip (IsNodeAt image) some (c.loop-address.nodes ++ node ∷ []))
    (sym (take_more c.args.addresses.now at 0 c.loop-address-test.true))
    (AllZip-push (IsNodeAt image) (take at c.args.addresses.now) c.loop-address.nodes one node
    (c.loop-address.invariant image entry are returns) (c.in_ok-node_at.ensures image entry are returns)))

pub returns : goal.returns
returns c = λ image entry are returns.
    subst (λ (some : List ℕ). AllZip (IsNodeAt image) some c.loop-address.nodes)
    (take_all c.loop-address.address-index c.args.addresses.now (omega (arith, c.loop-address-test.false)))
    (c.loop-address.invariant image entry are returns)
