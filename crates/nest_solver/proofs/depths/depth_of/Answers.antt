use Rattle.std.proofs.Common.{ℕ, ◌+◌, ◌<◌, length, subst, sym, arith}
use Rattle.std.proofs.lemmas.Bool.Decides.{nat_tests}
use Rattle.nest_solver.specs.Shape.{IsUpTo}
use Rattle.nest_solver.proofs.Deeps.{HasCome, all_round, come-first, come-last, come-less, come-next}
use Rattle.nest_solver.proofs.depths.depth_of.Goals as goal

pub loop-scope-init : goal.loop-scope-init
loop-scope-init c = come-first c.args.net.now.loops c.args.inner c.requires.inner

pub loop-scope-smaller : goal.loop-scope-smaller
loop-scope-smaller c =
    let up : IsUpTo (length c.args.net.now.loops) c.loop-scope.scope = (grind (arith, nat_tests), c.loop-scope.invariant.number) in
    subst (λ (s : ℕ). all_round c.args.net.now.loops s < all_round c.args.net.now.loops c.loop-scope.scope)
    (sym c.outer-scope.ensures) (come-less c.args.net.now c.loop-scope.scope c.requires.nested up)

pub loop-scope-preserved : goal.loop-scope-preserved
loop-scope-preserved c =
    let up : IsUpTo (length c.args.net.now.loops) c.loop-scope.scope = (grind (arith, nat_tests), c.loop-scope.invariant.number) in
    subst (λ (s : ℕ). HasCome c.args.net.now.loops c.args.inner s (c.loop-scope.depth + 1)) (sym c.outer-scope.ensures)
    (come-next c.args.net.now c.args.inner c.loop-scope.scope c.loop-scope.depth c.requires.nested up c.loop-scope.invariant)

pub returns-clause-deep : goal.returns-clause-deep
returns-clause-deep c =
    come-last c.args.net.now.loops c.args.inner c.loop-scope.scope c.loop-scope.depth (grind (arith, nat_tests))
    c.loop-scope.invariant
