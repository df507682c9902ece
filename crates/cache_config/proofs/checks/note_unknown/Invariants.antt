use Rattle.std.proofs.Common.{◌≡◌, map}
use Rattle.toml.specs.View.{members_view, table_view}
use Rattle.cache_config.specs.Faults.{unknown_faults}
use Rattle.cache_config.specs.Firsts.{first_of}
use Rattle.cache_config.specs.Rows.{row_of}
use Rattle.cache_config.proofs.checks.note_unknown.Given as goal

abbrev pub invariant-names : goal.invariant-names
invariant-names l =
    first_of l.first (unknown_faults l.fn.prefix (map row_of l.fn.keys) (members_view l.name-iterator))
    ≡ first_of l.initial.first (unknown_faults l.fn.prefix (map row_of l.fn.keys) (table_view l.table))
