-- The rows have the terms of the arcs so far.
use Rattle.ipet_program.specs.Tables.{AreLoopRows}
use Rattle.ipet_program.proofs.loops.add_arcs.Given as goal

abbrev pub invariant-loop-index : goal.invariant-loop-index
invariant-loop-index l = AreLoopRows l.net l.index l.rows
