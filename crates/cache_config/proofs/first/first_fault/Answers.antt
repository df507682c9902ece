use Rattle.std.proofs.Common.{◌∙◌, sym, None, []}
use Rattle.std.specs.Prelude.{codes}
use Rattle.toml.specs.View.{table_view}
use Rattle.cache_config.specs.Keys.{cache_tables, class_rows, profile_rows, region_tables}
use Rattle.cache_config.specs.Faults.{array_faults, chain_rule, place_rule, stack_faults, table_faults}
use Rattle.cache_config.specs.Spans.{stack_of}
use Rattle.cache_config.specs.Values.{caches_of, costs_of, regions_of}
use Rattle.cache_config.proofs.FirstLemmas.{first_of-five}
use Rattle.cache_config.proofs.first.first_fault.Goals as goal

pub returns : goal.returns
returns c =
    let ms = table_view c.args.table.now in
    let found = c.in_ok-note_array-2.ensures in
    found ∙ rw (c.in_ok-note_array.ensures, c.in_ok-note_stack.ensures, c.in_ok-note_table-2.ensures, c.in_ok-note_table.ensures, c.profile_keys.ensures, c.class_keys.ensures, c.cache_tables.ensures, c.region_tables.ensures, c.table_at-costs.ensures, c.elements_at-caches.ensures, c.elements_at-regions.ensures, c.stack_of.ensures)
    (sym (first_of-five None (table_faults [] profile_rows ms) (table_faults (codes "cycles.") class_rows (costs_of ms)) (stack_faults ms)
    (array_faults cache_tables chain_rule (caches_of ms)) (array_faults region_tables (place_rule (stack_of ms)) (regions_of ms))))
