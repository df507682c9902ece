use Rattle.std.proofs.Common.{take}
use Rattle.step_table.specs.Table.{AreStepsTo}
use Rattle.step_table.proofs.table.steps_to.Given as goal

abbrev pub invariant-loop-address : goal.invariant-loop-address
invariant-loop-address l = AreStepsTo l.addresses (take l.address-index l.onward) l.steps
