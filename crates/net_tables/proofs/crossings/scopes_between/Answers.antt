-- Each turn lists a scope and comes to the next one outward.
use Rattle.std.proofs.Common.{arith, subst, sym}
use Rattle.std.proofs.lemmas.Bool.Decides.{nat_tests}
use Rattle.flow_net.proofs.Chains.{around-outward}
use Rattle.flow_net.proofs.Numbers.{item_at-there}
use Rattle.net_tables.proofs.Leaving.{IsWalked, walk-begins, walk-ends, walk-goes, walk-inside}
use Rattle.net_tables.proofs.crossings.scopes_between.Goals as goal

pub loop-scope-init : goal.loop-scope-init
loop-scope-init c =
    subst (IsWalked c.args.loops.now c.args.inner c.args.outer c.args.inner) (sym c.new-scopes.ensures)
    (walk-begins c.args.loops.now c.args.inner c.args.outer c.requires.inner c.requires.within)

pub loop-scope-smaller : goal.loop-scope-smaller
loop-scope-smaller c =
    around-outward c.args.loops.now c.requires.loops c.requires.chains c.loop-scope.scope _
    (item_at-there c.args.loops.now c.loop-scope.scope _
    (walk-inside c.args.loops.now c.args.inner c.args.outer c.loop-scope.scope c.loop-scope.scopes
    (λ same. grind (arith, nat_tests)) c.loop-scope.invariant))

pub loop-scope-preserved : goal.loop-scope-preserved
loop-scope-preserved c =
    subst (IsWalked c.args.loops.now c.args.inner c.args.outer _) (sym c.in_ok-push.ensures.ok)
    (walk-goes c.args.loops.now c.args.inner c.args.outer c.loop-scope.scope _ c.loop-scope.scopes c.requires.loops
    (item_at-there c.args.loops.now c.loop-scope.scope _
    (walk-inside c.args.loops.now c.args.inner c.args.outer c.loop-scope.scope c.loop-scope.scopes
    (λ same. grind (arith, nat_tests)) c.loop-scope.invariant))
    (λ same. grind (arith, nat_tests)) c.loop-scope.invariant)

pub returns : goal.returns
returns c =
    walk-ends c.args.loops.now c.args.inner c.args.outer c.loop-scope.scope c.loop-scope.scopes c.requires.chains
    (grind (arith, nat_tests)) c.loop-scope.invariant
