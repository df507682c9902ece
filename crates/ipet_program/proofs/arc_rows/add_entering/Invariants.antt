-- The rows have the arcs so far.
use Rattle.std.proofs.Common.{◌≡◌, length}
use Rattle.ipet_program.specs.StageTables.{entering_row}
use Rattle.ipet_program.specs.Sums.{numbered}
use Rattle.ipet_program.proofs.arc_rows.add_entering.Given as goal

abbrev pub invariant-loop-index : goal.invariant-loop-index
invariant-loop-index l = l.rows ≡ numbered (entering_row l.net l.index) (length l.net.loops)
