-- The walk goes from the innermost scope of the start to the innermost one that holds both ends, or to the run.
use Rattle.std.specs.Prelude.{◌<◌}
use Rattle.std.proofs.Common.{arith, subst, sym}
use Rattle.std.proofs.lemmas.Bool.Decides.{nat_tests}
use Rattle.std.proofs.lemmas.Result.{IfOk-weaker}
use Rattle.flow_net.specs.Numbers.{IsNumberOrZero}
use Rattle.flow_net.specs.declared.net.NetArc.{NetArc}
use Rattle.flow_net.specs.declared.net.Place.{Place}
use Rattle.flow_net.proofs.Chains.{within-zero}
use Rattle.flow_net.proofs.Holds.{holds-place}
use Rattle.flow_net.proofs.Numbers.{item_at-all, item_at-same}
use Rattle.net_tables.specs.Crossings.{AreBetween, AreLeft}
use Rattle.net_tables.proofs.Entered.{item_at-listed, start-number}
use Rattle.net_tables.proofs.Leaving.{left-all, left-between}
use Rattle.net_tables.proofs.crossings.scopes_left_along.Goals as goal

pub scopes_between-requires-clause-within : goal.scopes_between-requires-clause-within
scopes_between-requires-clause-within c =
    let net = c.args.net.now in
    let there = item_at-listed net.arcs c.as_slice.result.now c.args.number (record { from = 0; to = 0 })
    c.as_slice.ensures c.requires.number in
    let at = item_at-listed net.places c.as_slice-2.result.now _ (record { context = 0; address = 0; scope = 0 })
    c.as_slice-2.ensures
    (start-number net c.requires.net c.args.number _ there (grind (arith, nat_tests))) in
    rw c.as_slice-then-arc-eq0-2.ensures
    (within-zero net.loops c.requires.net.scopes.loops c.requires.net.scopes.chains _
    (item_at-all (λ (p : Place). IsNumberOrZero net.loops p.scope) net.places _ _ c.requires.net.scopes.places at))

pub returns-then-arc-eq0-2 : goal.returns-then-arc-eq0-2
returns-then-arc-eq0-2 c =
    let net = c.args.net.now in
    let there = item_at-listed net.arcs c.as_slice.result.now c.args.number (record { from = 0; to = 0 })
    c.as_slice.ensures c.requires.number in
    let at = item_at-listed net.places c.as_slice-2.result.now _ (record { context = 0; address = 0; scope = 0 })
    c.as_slice-2.ensures
    (start-number net c.requires.net c.args.number _ there (grind (arith, nat_tests))) in
    subst (AreLeft net c.args.number) (sym c.in_ok-push.ensures.ok)
    (left-all net c.requires.net c.args.number _ _ c.in_ok-scopes.scopes there at (grind (arith, nat_tests))
    (rw (sym c.as_slice-then-arc-eq0-2.ensures) c.in_ok-scopes.ensures))

pub shared_scope-shared-requires-clause-ends : goal.shared_scope-shared-requires-clause-ends
shared_scope-shared-requires-clause-ends c = λ arc also.
    let there = item_at-listed c.args.net.now.arcs c.as_slice.result.now c.args.number (record { from = 0; to = 0 })
    c.as_slice.ensures c.requires.number in
    subst (λ (a : NetArc). (0 < a.from) × (0 < a.to)) (item_at-same c.args.net.now.arcs c.args.number _ arc there also)
    (grind (arith, nat_tests), grind (arith, nat_tests))

pub scopes_between-requires-2-clause-within : goal.scopes_between-requires-2-clause-within
scopes_between-requires-2-clause-within c =
    let net = c.args.net.now in
    let there = item_at-listed net.arcs c.as_slice.result.now c.args.number (record { from = 0; to = 0 })
    c.as_slice.ensures c.requires.number in
    let at = item_at-listed net.places c.as_slice-2.result.now _ (record { context = 0; address = 0; scope = 0 })
    c.as_slice-2.ensures
    (start-number net c.requires.net c.args.number _ there (grind (arith, nat_tests))) in
    rw c.as_slice-3.ensures
    (holds-place net c.shared_scope-shared.result _ _ at (c.shared_scope-shared.ensures.shared _ there).start)

pub returns : goal.returns
returns c =
    let net = c.args.net.now in
    let there = item_at-listed net.arcs c.as_slice.result.now c.args.number (record { from = 0; to = 0 })
    c.as_slice.ensures c.requires.number in
    let at = item_at-listed net.places c.as_slice-2.result.now _ (record { context = 0; address = 0; scope = 0 })
    c.as_slice-2.ensures
    (start-number net c.requires.net c.args.number _ there (grind (arith, nat_tests))) in
    IfOk-weaker c.scopes_between-2.result
    (λ scopes. AreBetween c.as_slice-3.result.now _ c.shared_scope-shared.result scopes)
    (AreLeft net c.args.number)
    (λ scopes between. left-between net c.requires.net c.args.number _ _ c.shared_scope-shared.result scopes there at
    (c.shared_scope-shared.ensures.shared _ there)
    (rw (sym c.as_slice-3.ensures) between))
    c.scopes_between-2.ensures
