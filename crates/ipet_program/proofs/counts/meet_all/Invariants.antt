-- The rows before this one are met.
use Rattle.std.proofs.Common.{All, take}
use Rattle.ipet_program.specs.Counts.{IsMet, listed}
use Rattle.ipet_program.proofs.counts.meet_all.Given as goal

abbrev pub invariant-loop-row : goal.invariant-loop-row
invariant-loop-row l = All (IsMet (listed l.counts)) (take l.row-index l.rows)
