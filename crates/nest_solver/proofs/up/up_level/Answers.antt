use Rattle.std.proofs.Common.{◌≡◌, ℕ, set, ◌∙◌, length, arith, ap, subst, sym}
use Rattle.nest_solver.specs.Nets.{entry}
use Rattle.nest_solver.specs.Shape.{IsUpTo}
use Rattle.nest_solver.specs.Up.{AreRight}
use Rattle.nest_solver.proofs.Puts.{Puts, entry-read, puts-set}
use Rattle.nest_solver.proofs.Upward.{chain-first, chain-next, right-first, right-more}
use Rattle.nest_solver.proofs.up.up_level.Goals as goal

pub loop-scope-init : goal.loop-scope-init
loop-scope-init c =
    let scopes = c.args.scopes.now in
    let depths = entry scopes.depths.items in
    let read = entry-read scopes.heads.items c.args.level c.index-scope.result.now
    (omega (arith, c.requires.scopes.heads)) c.index-scope.ensures in
    let start = chain-first (length c.args.net.now.loops) c.args.level depths (entry scopes.heads.items) (entry scopes.next.items)
    c.requires.scopes.chains in
    record {
      within = omega (arith, read, start.0);
      level = λ some. ap depths read ∙ start.1 (omega (arith, read, some));
      run = c.requires.run;
      right = subst (λ (at : ℕ). AreRight c.args.net.now depths c.args.depth (entry c.args.up.now) c.args.level at) (sym read)
          (right-first c.args.net.now depths (entry scopes.heads.items) (entry scopes.next.items) (entry c.args.up.now)
          c.args.depth c.args.level c.requires.scopes.chains c.requires.right);
    }

pub up_from-requires-clause-scope : goal.up_from-requires-clause-scope
up_from-requires-clause-scope c = (omega (arith, c.loop-scope-test.true), c.loop-scope.invariant.within)

pub bounds-up-scope : goal.bounds-up-scope
bounds-up-scope c = omega (arith, c.requires.room, c.loop-scope.invariant.within, c.loop-scope.auto.up)

pub index-scope-requires-in-loop-scope : goal.index-scope-requires-in-loop-scope
index-scope-requires-in-loop-scope c =
    omega (arith, c.requires.scopes.next, c.loop-scope.invariant.within)

pub loop-scope-smaller : goal.loop-scope-smaller
loop-scope-smaller c =
    let scopes = c.args.scopes.now in
    let read = entry-read scopes.next.items c.loop-scope.scope c.index-scope-in-loop-scope.result.now
    (omega (arith, c.requires.scopes.next, c.loop-scope.invariant.within)) c.index-scope-in-loop-scope.ensures in
    omega (
      arith,
      read,
      c.requires.scopes.chains.next_less c.loop-scope.scope (omega (arith, c.loop-scope-test.true))
          (omega (arith, c.loop-scope.invariant.within)),
    )

pub loop-scope-preserved : goal.loop-scope-preserved
loop-scope-preserved c =
    let scopes = c.args.scopes.now in
    let depths = entry scopes.depths.items in
    let scope = c.loop-scope.scope in
    let up2 = set c.loop-scope.up scope c.up_from.result in
    let up : IsUpTo (length c.args.net.now.loops) scope =
    (omega (arith, c.loop-scope-test.true), c.loop-scope.invariant.within) in
    let deep : depths scope ≡ c.args.level = c.loop-scope.invariant.level (omega (arith, up)) in
    let read = entry-read scopes.next.items c.loop-scope.scope c.index-scope-in-loop-scope.result.now
    (omega (arith, c.requires.scopes.next, c.loop-scope.invariant.within)) c.index-scope-in-loop-scope.ensures in
    let onward = chain-next (length c.args.net.now.loops) scope depths (entry scopes.heads.items) (entry scopes.next.items)
    up c.requires.scopes.chains in
    let puts = puts-set c.loop-scope.up scope c.up_from.result
    (omega (arith, c.requires.room, up, c.loop-scope.auto.up)) in
    record {
      within = omega (arith, read, onward.0);
      level = λ some. ap depths read ∙ onward.1 (omega (arith, read, some)) ∙ deep;
      run = puts.others 0 (λ same. omega (arith, same, up)) ∙ c.loop-scope.invariant.run;
      right = subst (λ (at : ℕ). AreRight c.args.net.now depths c.args.depth (entry up2) c.args.level at) (sym read)
          (right-more c.args.net.now depths (entry scopes.heads.items) (entry scopes.next.items)
          (entry c.loop-scope.up) (entry up2) c.args.depth c.args.level scope c.requires.scopes.depths
          c.requires.scopes.chains up deep c.loop-scope.invariant.right
          (subst (λ (value : ℕ). Puts (entry c.loop-scope.up) (entry up2) scope value) c.up_from.ensures.up puts));
    }
