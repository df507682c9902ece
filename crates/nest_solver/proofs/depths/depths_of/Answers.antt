use Rattle.std.proofs.Common.{ap, arith, length}
use Rattle.nest_solver.proofs.Deeps.{deep-depths, outer-within}
use Rattle.nest_solver.proofs.depths.depths_of.Goals as goal

pub returns-clause-depths : goal.returns-clause-depths
returns-clause-depths c =
    deep-depths c.args.net.now c.loop-scope.depths.items
    (λ scope low. c.loop-scope.invariant.deep scope (omega (arith, low, c.loop-scope-test.false, ap length c.as_slice.ensures)))
    (outer-within c.args.net.now c.requires.nested)
