use Rattle.std.proofs.Common.{◌≡◌, ℕ, ◌∷◌, [], ◌≤◌, Bool, List, false, length, subst, sym, arith, ap, length-append}
use Rattle.nest_solver.specs.Nets.{entry}
use Rattle.nest_solver.specs.Tables.{goes_back, test_at}
use Rattle.nest_solver.proofs.Pushes.{pushed-all}
use Rattle.nest_solver.proofs.headers.backs_of.Goals as goal

pub loop-arc-preserved : goal.loop-arc-preserved
loop-arc-preserved c =
    let before = c.loop-arc.backs.items in
    let value = c.returns.result in
    let wants = goes_back c.args.net.now (entry c.args.headed.now) in
    record {
      count = omega (arith, ap length c.in_ok-push-2.ensures.items, length-append before (value ∷ []), c.loop-arc.invariant.count);
      told = λ i some low. subst (λ (table : List Bool). test_at table i ≡ wants i) (sym c.in_ok-push-2.ensures.items)
          (pushed-all before value false (λ (k : ℕ) (b : Bool). 1 ≤ k → b ≡ wants k) c.loop-arc.arc c.loop-arc.invariant.count
          (λ k less one. c.loop-arc.invariant.told k one less) (λ one. c.returns.ensures.back) i low some);
    }
