use Rattle.std.proofs.Common.{◌+◌, ◌∷◌, ◌++◌, [], ℕ, List, subst, sym, take}
use Rattle.unit_graph.specs.declared.node.Unit.{Unit as Node}
use Rattle.step_table.specs.Table.{AreStepsTo}
use Rattle.loop_nest.specs.Table.{IsTableOf}
use Rattle.step_table.proofs.Positions.{zip_push}
use Rattle.step_table.proofs.Seen.{one_more}
use Rattle.loop_nest.proofs.table.table_of.Goals as goal

pub loop-unit-preserved : goal.loop-unit-preserved
loop-unit-preserved c =
    let at = c.loop-unit.unit-index in
    let unit = c.unit-item.result in
    let before = take at c.args.units.now in
    let steps = c.in_ok-steps_to.field-0 in
    subst (IsTableOf c.args.addresses.now (take (at + 1) c.args.units.now)) (sym c.in_ok-push.ensures.items)
    (subst (λ (units : List Node). IsTableOf c.args.addresses.now units (c.loop-unit.table.items ++ steps ∷ []))
    (sym (one_more c.args.units.now at unit c.loop-unit-test.true c.unit-item.is))
    (zip_push (λ (node : Node) (steps : List ℕ). AreStepsTo c.args.addresses.now node.onward steps) before
    c.loop-unit.table.items unit steps c.loop-unit.invariant
    (subst (λ (onward : List ℕ). AreStepsTo c.args.addresses.now onward steps) c.as_slice.ensures c.in_ok-steps_to.ensures)))
