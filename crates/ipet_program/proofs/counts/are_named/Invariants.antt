-- The counts before this one are of columns.
use Rattle.std.proofs.Common.{◌≤◌, All, take}
use Rattle.ipet_program.specs.declared.certificate.Count.{Count}
use Rattle.ipet_program.proofs.counts.are_named.Given as goal

abbrev pub invariant-loop-count : goal.invariant-loop-count
invariant-loop-count l =
    All (λ (count : Count). (1 ≤ count.column) × (count.column ≤ l.columns)) (take l.count-index l.counts)
