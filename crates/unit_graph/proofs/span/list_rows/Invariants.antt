use Rattle.std.proofs.Common.{◌≡◌, All, map, take}
use Rattle.unit_graph.specs.Rows.{IsRow}
use Rattle.unit_graph.specs.declared.rows.Row.{Row}
use Rattle.unit_graph.proofs.span.list_rows.Given as goal

abbrev pub invariant-loop-address : goal.invariant-loop-address
invariant-loop-address l = record {
  listed : map (λ (row : Row). row.address) l.rows.items ≡ take l.address-index l.addresses;
  each : All (IsRow l.image) l.rows.items;
}
