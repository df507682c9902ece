use Rattle.std.proofs.Common.{◌≡◌, map, drop}
use Rattle.std.specs.Prelude.{flat_map}
use Rattle.toml.specs.View.{table_view}
use Rattle.cache_config.specs.Faults.{row_faults}
use Rattle.cache_config.specs.Firsts.{first_of}
use Rattle.cache_config.specs.Rows.{row_of}
use Rattle.cache_config.proofs.checks.note_rows.Given as goal

abbrev pub invariant-rows : goal.invariant-rows
invariant-rows l =
    first_of l.first (flat_map (row_faults l.fn.prefix (table_view l.table)) (map row_of (drop l.key-index l.keys)))
    ≡ first_of l.initial.first (flat_map (row_faults l.fn.prefix (table_view l.table)) (map row_of l.keys))
