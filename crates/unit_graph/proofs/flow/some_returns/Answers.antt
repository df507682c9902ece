use Rattle.std.proofs.Common.{ℕ, List, get_or, subst, sym, refl, take, arith, rules}
use Rattle.std.proofs.lemmas.List.{take_all, take_more}
use Rattle.unit_graph.specs.Flow.{SomeReturns}
use Rattle.unit_graph.proofs.Behind.{some_here, some_more, some_none}
use Rattle.unit_graph.proofs.flow.some_returns.Goals as goal

pub loop-callee-init : goal.loop-callee-init
loop-callee-init c = some_none c.args.returning.now.keys

pub loop-callee-preserved : goal.loop-callee-preserved
loop-callee-preserved c =
    let at = c.loop-callee.callee-index in
    subst (λ (calls : List ℕ). SomeReturns c.args.returning.now.keys calls → ⊥)
    (sym (take_more c.args.calls.now at 0 c.loop-callee-test.true))
    (some_more c.args.returning.now.keys (take at c.args.calls.now) (get_or c.args.calls.now at 0)
    c.loop-callee.invariant (search rules))

pub returns-then-has : goal.returns-then-has
returns-then-has c =
    (λ h. some_here c.args.returning.now.keys c.args.calls.now c.loop-callee.callee-index c.loop-callee-test.true (search rules), λ h. refl)

pub returns : goal.returns
returns c = (
  λ h. cc,
  λ h. absurd (subst (λ (calls : List ℕ). SomeReturns c.args.returning.now.keys calls → ⊥)
      (take_all c.loop-callee.callee-index c.args.calls.now (omega (arith, c.loop-callee-test.false))) c.loop-callee.invariant h),
)
