-- The partition gives the place of the address.
use Rattle.std.proofs.Common.{nat_lt, rules}
use Rattle.std.proofs.lemmas.List.Sorted.{IsPartitionPoint-from_clause, IsPartitionedBy-ltb}
use Rattle.unit_graph.specs.declared.rows.Row.{Row}
use Rattle.unit_graph.proofs.RowPlaces.{none_other, none_past, rows_ordered}
use Rattle.unit_graph.proofs.span.row_at.Goals as goal

pub returns-in_default-clause-none : goal.returns-in_default-clause-none
returns-in_default-clause-none c =
    none_past c.args.rows.now c.args.address c.partition_point-place.result c.requires
    (IsPartitionPoint-from_clause (λ (row : Row). nat_lt row.address c.args.address) c.args.rows.now
    c.partition_point-place.result c.partition_point-place.ensures.partitioned
    (IsPartitionedBy-ltb (λ (row : Row). row.address) c.args.rows.now c.args.address (rows_ordered c.args.rows.now c.requires))
    (λ a r q k. search rules))
    (search rules)

pub returns-else-row-address-clause-none : goal.returns-else-row-address-clause-none
returns-else-row-address-clause-none c =
    none_other c.args.rows.now c.args.address c.partition_point-place.result c.in-Some.row.now c.requires
    (IsPartitionPoint-from_clause (λ (row : Row). nat_lt row.address c.args.address) c.args.rows.now
    c.partition_point-place.result c.partition_point-place.ensures.partitioned
    (IsPartitionedBy-ltb (λ (row : Row). row.address) c.args.rows.now c.args.address (rows_ordered c.args.rows.now c.requires))
    (λ a r q k. search rules))
    (search rules) (search rules) c.if-row-address.false
