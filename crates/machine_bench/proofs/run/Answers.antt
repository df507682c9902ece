use Rattle.std.proofs.Common.{◌≡◌, ◌∙◌, ◌+◌, ap, suc, ℕ, inr, subst, sym, arith}
use Rattle.mips_machine.specs.Machine.{After, whole_step}
use Rattle.machine_bench.specs.Units.{HasReturned}
use Rattle.machine_bench.proofs.run.Goals as goal

pub returns-in-Returned-clause-ends : goal.returns-in-Returned-clause-ends
returns-in-Returned-clause-ends c = λ few. inr (inr (subst (λ (n : ℕ). HasReturned n c.args.machine.now) next returned))
  where
    returned : HasReturned (suc c.loop-unit.unit) c.args.machine.now
    returned = ap (λ (a : After). a.outcome) (sym (c.step.ensures.whole ∙ ap whole_step c.loop-unit.invariant)) ∙ c.in-Returned.is

    next : suc c.loop-unit.unit ≡ c.loop-unit.unit + 1
    next = omega arith
