-- The rows so far, and those of the scopes that are left.
use Rattle.std.proofs.Common.{◌≡◌, ◌≤◌, ◌++◌, drop, length, map}
use Rattle.flow_net.specs.declared.net.Net.{Net}
use Rattle.ipet_program.specs.StageRows.{first_row}
use Rattle.ipet_program.specs.StageTables.{entering_row}
use Rattle.ipet_program.specs.Sums.{numbered}
use Rattle.ipet_program.proofs.stage_rows.add_firsts.Given as goal

abbrev pub invariant-loop-scope : goal.invariant-loop-scope
invariant-loop-scope l =
    (net : Net) → 1 ≤ length net.arcs → l.entering ≡ numbered (entering_row net (length net.arcs)) (length l.entering) →
    l.rows.items ++ map (first_row net l.column) (drop l.scope-index l.firsts) ≡ l.initial.rows.items ++ map (first_row net l.column) l.firsts
