-- The rows have the arcs so far.
use Rattle.std.proofs.Common.{◌≡◌, length}
use Rattle.ipet_program.specs.StageTables.{into_row}
use Rattle.ipet_program.specs.Sums.{numbered}
use Rattle.ipet_program.proofs.arc_rows.add_into.Given as goal

abbrev pub invariant-loop-index : goal.invariant-loop-index
invariant-loop-index l = l.rows ≡ numbered (into_row l.arcs l.index) (length l.initial.rows)
