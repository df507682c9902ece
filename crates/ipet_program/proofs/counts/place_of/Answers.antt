-- The partition gives the place.
use Rattle.std.proofs.Common.{nat_lt, get_or, arith, rules}
use Rattle.std.proofs.lemmas.Bool.{ltb-false, ltb-true}
use Rattle.std.proofs.lemmas.List.Sorted.{IsPartitionPoint-from_clause, IsPartitionedBy-ltb}
use Rattle.ipet_program.specs.declared.certificate.Count.{Count}
use Rattle.ipet_program.proofs.ListedLemmas.{non_decreasing}
use Rattle.ipet_program.proofs.counts.place_of.Goals as goal

pub returns : goal.returns
returns c =
    let counts = c.args.counts.now in
    let split = IsPartitionPoint-from_clause (λ (one : Count). nat_lt one.column c.args.column) counts
    c.partition_point.result c.partition_point.ensures.partitioned
    (IsPartitionedBy-ltb (λ (one : Count). one.column) counts c.args.column (non_decreasing counts c.requires))
    (λ a r q k. search rules) in
    record {
      before = λ k d less inside. ltb-true (get_or counts k d).column c.args.column (split.0 k d (omega arith) less);
      behind = λ k d past inside. ltb-false (get_or counts k d).column c.args.column (split.1 k d past inside);
    }
