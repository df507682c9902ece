use Rattle.std.proofs.Common.{take}
use Rattle.step_table.specs.Table.{Joins}
use Rattle.step_table.proofs.table.join_all.Given as goal

abbrev pub invariant-loop-place : goal.invariant-loop-place
invariant-loop-place l = Joins l.initial.lists (take l.place-index l.places) l.item l.lists
