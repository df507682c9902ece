use Rattle.std.proofs.Common.{ℕ, List, subst, sym, take, arith}
use Rattle.std.proofs.lemmas.List.{take_all, take_more}
use Rattle.step_table.specs.Table.{AreStepsTo}
use Rattle.step_table.proofs.Positions.{steps_none}
use Rattle.step_table.proofs.table.steps_to.Goals as goal

pub loop-address-init : goal.loop-address-init
loop-address-init c = steps_none c.args.addresses.now c.new-steps.result c.new-steps.ensures

pub loop-address-preserved : goal.loop-address-preserved
loop-address-preserved c =
    let at = c.loop-address.address-index in
    subst (λ (onward : List ℕ). AreStepsTo c.args.addresses.now onward c.add_step.new.steps)
    (sym (take_more c.args.onward.now at 0 c.loop-address-test.true))
    (c.in_ok-add_step.ensures (take at c.args.onward.now) c.loop-address.invariant)

pub returns : goal.returns
returns c =
    subst (λ (onward : List ℕ). AreStepsTo c.args.addresses.now onward c.loop-address.steps)
    (take_all c.loop-address.address-index c.args.onward.now (omega (arith, c.loop-address-test.false)))
    c.loop-address.invariant
