use Rattle.std.proofs.Common.{take}
use Rattle.loop_nest.specs.Table.{IsTableOf}
use Rattle.loop_nest.proofs.table.table_of.Given as goal

abbrev pub invariant-loop-unit : goal.invariant-loop-unit
invariant-loop-unit l = IsTableOf l.addresses (take l.unit-index l.units) l.table.items
