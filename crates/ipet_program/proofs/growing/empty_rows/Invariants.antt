-- The rows so far have no terms.
use Rattle.std.proofs.Common.{◌≡◌}
use Rattle.ipet_program.specs.Sums.{numbered}
use Rattle.ipet_program.specs.Tables.{empty_row}
use Rattle.ipet_program.proofs.growing.empty_rows.Given as goal

abbrev pub invariant-loop : goal.invariant-loop
invariant-loop l = l.rows.items ≡ numbered (λ number. empty_row l.equal) l.counter
