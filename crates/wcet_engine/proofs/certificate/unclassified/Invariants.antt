-- So far there is an empty row for each access.
use Rattle.std.proofs.Common.{◌≡◌, List, length, All}
use Rattle.flow_net.specs.declared.letter.Level2.{Level2}
use Rattle.wcet_engine.proofs.certificate.unclassified.Given as goal

abbrev pub invariant-loop-access : goal.invariant-loop-access
invariant-loop-access l =
    (length l.rows ≡ l._access-index) × All (λ (row : List Level2). length row ≡ 0) l.rows
