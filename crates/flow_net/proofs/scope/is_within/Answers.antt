-- The scope read at each turn is the next one outward, and the chain from it tells the same.
use Rattle.std.proofs.Common.{arith}
use Rattle.std.proofs.lemmas.Bool.Decides.{nat_tests}
use Rattle.flow_net.proofs.Numbers.{item_at-there}
use Rattle.flow_net.proofs.Within.{within-same}
use Rattle.flow_net.proofs.Chains.{around-outward, goes-next}
use Rattle.flow_net.proofs.scope.is_within.Goals as goal

pub loop-scope-smaller : goal.loop-scope-smaller
loop-scope-smaller c =
    around-outward c.args.loops.now c.requires.loops c.requires.chains c.loop-scope.scope _
    (item_at-there c.args.loops.now c.loop-scope.scope _
    (record {
      from_one = grind (arith, nat_tests);
      within = c.loop-scope.invariant.number;
    }))

pub loop-scope-preserved : goal.loop-scope-preserved
loop-scope-preserved c =
    goes-next c.args.loops.now c.args.outer c.args.inner c.loop-scope.scope _ c.requires.loops
    (item_at-there c.args.loops.now c.loop-scope.scope _
    (record {
      from_one = grind (arith, nat_tests);
      within = c.loop-scope.invariant.number;
    }))
    (λ same. grind (arith, nat_tests))
    c.loop-scope.invariant

pub returns-clause-within : goal.returns-clause-within
returns-clause-within c =
    c.loop-scope.invariant.onward
    (within-same c.args.loops.now c.args.outer c.loop-scope.scope c.loop-scope-test.false)
