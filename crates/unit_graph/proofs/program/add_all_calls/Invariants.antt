use Rattle.std.proofs.Common.{take}
use Rattle.unit_graph.specs.Program.{CalledFrom}
use Rattle.unit_graph.specs.Search.{Gains}
use Rattle.unit_graph.proofs.program.add_all_calls.Given as goal

abbrev pub invariant-loop-address : goal.invariant-loop-address
invariant-loop-address l =
    Gains (CalledFrom l.rows (take l.address-index l.code)) l.initial.calls.keys l.calls.keys
