use Rattle.std.proofs.Common.{ap, is_some, rules, sym, ◌∙◌}
use Rattle.std.proofs.lemmas.Bool.{false≢true}
use Rattle.std.proofs.lemmas.List.{length-map}
use Rattle.toml.specs.View.{table_view, view}
use Rattle.cache_config.specs.Values.{caches_of, regions_of}
use Rattle.cache_config.proofs.FaultlessLemmas.{all_off_stack, faultless, few_caches, few_regions, same_stack}
use Rattle.cache_config.proofs.read.read_values.Goals as goal

pub unreachable-requires : goal.unreachable-requires
unreachable-requires c =
    let free = faultless (table_view c.args.table.now) c.requires in
    absurd (false≢true (ap is_some (sym c.in_default.is ∙ c.stack_of.ensures ∙ free.stack)))

pub read_levels-requires-clause-few : goal.read_levels-requires-clause-few
read_levels-requires-clause-few c =
    let free = faultless (table_view c.args.table.now) c.requires in
    rw (← length-map c.elements_at-caches.result.now view, c.elements_at-caches.ensures) free.few_caches

pub read_levels-requires-clause-faultless : goal.read_levels-requires-clause-faultless
read_levels-requires-clause-faultless c =
    let free = faultless (table_view c.args.table.now) c.requires in
    rw c.elements_at-caches.ensures free.caches

pub read_regions-requires-clause-few : goal.read_regions-requires-clause-few
read_regions-requires-clause-few c =
    let free = faultless (table_view c.args.table.now) c.requires in
    rw (← length-map c.elements_at-areas.result.now view, c.elements_at-areas.ensures) free.few_regions

pub read_regions-requires-clause-faultless : goal.read_regions-requires-clause-faultless
read_regions-requires-clause-faultless c =
    let free = faultless (table_view c.args.table.now) c.requires in
    rw (c.elements_at-areas.ensures, ← c.in-Some.is, c.stack_of.ensures) free.regions

pub invariant_of-result : goal.invariant_of-result
invariant_of-result c =
    let ms = table_view c.args.table.now in
    let free = faultless ms c.requires in
    let stack = same_stack ms c.in-Some.stack free (sym c.stack_of.ensures ∙ c.in-Some.is) in
    let here = rw (← c.value_of-5.ensures.value, ← c.value_of-6.ensures.value) at stack in
    let spans = rw c.elements_at-areas.ensures at c.in_ok-regions.ensures.regions in
    let caches = rw c.elements_at-caches.ensures at c.in_ok-levels.ensures.levels in
    record {
      memory_limit = search rules;
      store_limit = search rules;
      splits_limit = search rules;
      some_steps = search rules;
      steps_limit = search rules;
      top_aligned = search rules;
      top_low = search rules;
      stack_some = search rules;
      stack_limit = search rules;
      stack_aligned = search rules;
      stack_fits = rw (c.value_of-5.ensures.value, c.value_of-6.ensures.value) free.fits;
      regions_limit = few_regions c.in_ok-regions.regions (regions_of ms) spans free.few_regions;
      off_stack = all_off_stack c.value_of-5.result c.value_of-6.result c.in-Some.stack c.in_ok-regions.regions here c.in_ok-regions.ensures.off_stack;
      levels_few = few_caches c.in_ok-levels.levels (caches_of ms) caches free.few_caches;
      chains_short = c.in_ok-levels.ensures.short;
      apart = c.in_ok-regions.ensures.apart;
    }
