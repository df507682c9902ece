-- The loops of the depth come by falling numbers, and each one's turn is put back.
use Rattle.std.proofs.Common.{◌≡◌, ℕ, ap, subst, ◌∙◌, arith}
use Rattle.nest_solver.specs.Nets.{entry}
use Rattle.nest_solver.specs.Plain.{plain}
use Rattle.nest_solver.specs.Putting.{IsPutting}
use Rattle.nest_solver.specs.Shape.{IsUpTo}
use Rattle.nest_solver.specs.Solved.{weight_of}
use Rattle.nest_solver.proofs.Plains.{tables-nest}
use Rattle.nest_solver.proofs.Puts.{entry-read}
use Rattle.nest_solver.proofs.Putting.{putting-start}
use Rattle.nest_solver.proofs.Turning.{chain-on, chain-start, level-done}
use Rattle.nest_solver.proofs.put_back.put_level.Goals as goal

pub loop-scope-init : goal.loop-scope-init
loop-scope-init c =
    let s = plain c.args.net.now c.args.tables.now in
    let scopes = c.args.tables.now.scopes in
    let are = c.requires.tables.scopes in
    let start = chain-start s c.args.depth (entry scopes.heads.items) (entry scopes.next.items) are.chains in
    let read : c.index-scope.result.now ≡ entry scopes.heads.items c.args.depth =
    entry-read scopes.heads.items c.args.depth c.index-scope.result.now (omega (arith, c.requires.depth, are.heads))
    c.index-scope.ensures in
    record {
      count = c.requires.counts;
      within = omega (arith, read, start.2);
      deep = λ some. ap (entry scopes.depths.items) read ∙ (start.0 (omega (arith, some, read))).1;
      putting = λ value turns path total begun.
          putting-start s (weight_of s value turns) turns (entry c.args.counts.now) c.args.depth c.index-scope.result.now
          (λ l u e. omega (arith, read, start.1 l u e));
    }

pub put_turn-requires-clause-turn : goal.put_turn-requires-clause-turn
put_turn-requires-clause-turn c =
    let begun = c.requires.begun in
    record {
      value = begun.value;
      turns = begun.turns;
      path = begun.path;
      total = begun.total;
      start = entry c.args.counts.now;
      turn = record {
        begun = begun.begun;
        enters = c.requires.enters;
        putting = c.loop-scope.invariant.putting begun.value begun.turns begun.path begun.total begun.begun;
      };
    }

pub loop-scope-smaller : goal.loop-scope-smaller
loop-scope-smaller c =
    let s = plain c.args.net.now c.args.tables.now in
    let scopes = c.args.tables.now.scopes in
    let are = c.requires.tables.scopes in
    let up : IsUpTo s.loops c.loop-scope.scope = (omega (arith, c.loop-scope-test.true), c.loop-scope.invariant.within) in
    let read = entry-read scopes.next.items c.loop-scope.scope c.index-scope-in-loop-scope.result.now
    (omega (arith, up, are.next)) c.index-scope-in-loop-scope.ensures in
    omega (
      arith,
      read,
      (chain-on s c.args.depth c.loop-scope.scope (entry scopes.heads.items) (entry scopes.next.items) are.chains up
          (c.loop-scope.invariant.deep (omega (arith, up)))).less,
    )

pub loop-scope-preserved : goal.loop-scope-preserved
loop-scope-preserved c =
    let s = plain c.args.net.now c.args.tables.now in
    let scopes = c.args.tables.now.scopes in
    let are = c.requires.tables.scopes in
    let up : IsUpTo s.loops c.loop-scope.scope = (omega (arith, c.loop-scope-test.true), c.loop-scope.invariant.within) in
    let read = entry-read scopes.next.items c.loop-scope.scope c.index-scope-in-loop-scope.result.now
    (omega (arith, up, are.next)) c.index-scope-in-loop-scope.ensures in
    let on = chain-on s c.args.depth c.loop-scope.scope (entry scopes.heads.items) (entry scopes.next.items) are.chains up
    (c.loop-scope.invariant.deep (omega (arith, up))) in
    record {
      count = omega (arith, c.put_turn.auto, c.loop-scope.invariant.count);
      within = omega (arith, read, on.less, up);
      deep = λ some. ap (entry scopes.depths.items) read ∙ on.deep (omega (arith, some, read));
      putting = λ value turns path total begun.
          c.put_turn.ensures.put value turns (entry c.args.counts.now) path total c.index-scope-in-loop-scope.result.now
          (record {
            begun = begun;
            enters = c.requires.enters;
            putting = c.loop-scope.invariant.putting value turns path total begun;
          })
          (omega (arith, read, on.less))
          (λ l v e above below. on.between l v e (omega (arith, above, read)) below);
    }

pub returns : goal.returns
returns c =
    let s = plain c.args.net.now c.args.tables.now in
    record {
      counted = λ value turns path total begun.
          level-done s value turns path total c.args.depth (entry c.args.best.now) (entry c.args.choice.now)
          (entry c.args.counts.now) (entry c.loop-scope.counts)
          (tables-nest c.args.net.now c.args.tables.now c.requires.nested c.requires.tables) begun
          (subst
          (λ (k : ℕ). IsPutting s (weight_of s value turns) turns (entry c.args.counts.now) c.args.depth k
          (entry c.loop-scope.counts)) (let e : c.loop-scope.scope ≡ 0 = omega (arith, c.loop-scope-test.false) in e)
          (c.loop-scope.invariant.putting value turns path total begun));
    }
