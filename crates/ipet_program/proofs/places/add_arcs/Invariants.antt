-- The rows have the terms of the arcs so far.
use Rattle.std.proofs.Common.{◌≡◌, length}
use Rattle.ipet_program.specs.Sums.{numbered}
use Rattle.ipet_program.specs.Tables.{place_row_to}
use Rattle.ipet_program.proofs.places.add_arcs.Given as goal

abbrev pub invariant-loop-index : goal.invariant-loop-index
invariant-loop-index l = l.rows ≡ numbered (place_row_to l.arcs l.index) (length l.initial.rows)
