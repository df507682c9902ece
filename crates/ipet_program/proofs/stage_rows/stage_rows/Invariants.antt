-- The rows so far, and those of the stages that are left.
use Rattle.std.proofs.Common.{◌≡◌, ◌+◌, ◌++◌, suc, drop, length}
use Rattle.ipet_program.specs.StageRows.{stage_rows}
use Rattle.ipet_program.proofs.stage_rows.stage_rows.Given as goal

abbrev pub invariant-loop-index : goal.invariant-loop-index
invariant-loop-index l =
    l.rows.items ++ stage_rows l.net (suc (length l.net.arcs + l.index)) (drop l.index l.stages)
    ≡ stage_rows l.net (suc (length l.net.arcs)) l.stages
