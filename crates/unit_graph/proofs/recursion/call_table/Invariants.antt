use Rattle.std.proofs.Common.{take}
use Rattle.unit_graph.specs.Recursion.{IsCallTable}
use Rattle.unit_graph.proofs.recursion.call_table.Given as goal

abbrev pub invariant-loop-function : goal.invariant-loop-function
invariant-loop-function l =
    IsCallTable l.rows l.returning.keys l.functions (take l.function-index l.functions) l.table.items
