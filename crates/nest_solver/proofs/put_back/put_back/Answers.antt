-- Depth after depth.
use Rattle.std.proofs.Common.{◌≡◌, ℕ, ◌+◌, ◌-◌, subst, arith}
use Rattle.nest_solver.specs.Begun.{IsReady}
use Rattle.nest_solver.specs.Nets.{entry}
use Rattle.nest_solver.specs.Plain.{plain}
use Rattle.nest_solver.proofs.put_back.put_back.Goals as goal

pub put_depth-requires-clause-ready : goal.put_depth-requires-clause-ready
put_depth-requires-clause-ready c =
    let ready = c.requires.ready in
    record {
      price = ready.price;
      path = ready.path;
      total = ready.total;
      ready = c.loop-depth.invariant ready.price ready.path ready.total ready.ready;
    }

pub loop-depth-preserved : goal.loop-depth-preserved
loop-depth-preserved c = λ price path total ready.
    subst
    (λ (d : ℕ). IsReady (plain c.args.net.now c.args.tables.now) price (entry c.args.weights.now) (entry c.args.turns.now)
    path total d (entry c.put_depth.new.counts)) (let e : c.loop-depth.depth ≡ c.loop-depth.depth + 1 - 1 = omega arith in e)
    (c.put_depth.ensures.ready price path total (c.loop-depth.invariant price path total ready))

pub returns : goal.returns
returns c = record {
  ready = λ price path total ready.
      subst
      (λ (d : ℕ). IsReady (plain c.args.net.now c.args.tables.now) price (entry c.args.weights.now)
      (entry c.args.turns.now) path total d (entry c.loop-depth.counts))
      (let e : c.loop-depth.depth - 1 ≡ c.args.deepest =
      omega (arith, c.loop-depth-test.false, c.loop-depth.auto.depth-end (omega arith)) in e)
      (c.loop-depth.invariant price path total ready);
}
