-- What a text without a fault keeps.
use Rattle.std.proofs.Common.{◌≡◌, ℕ, ◌+◌, ◌-◌, ◌≤◌, Bool, true, false, ◌&&◌, nat_le, nat_lt, List, [], ◌∷◌, ◌++◌, length, Option, Some, None, refl, sym, ◌∙◌, ap, arith, map, subst, unwrap_or}
use Rattle.std.proofs.lemmas.Bool.{and_parts}
use Rattle.std.proofs.lemmas.Bool.Decides.{nat_tests}
use Rattle.std.proofs.lemmas.List.{length-map}
use Rattle.std.specs.List.{All, AllByRecursion, flat_map}
use Rattle.std.specs.Option.{option_map_or}
use Rattle.std.specs.Prelude.{codes}
use Rattle.toml.specs.Data.{Data, Members, get_member}
use Rattle.cache_config.specs.declared.fault.Fault.{Fault}
use Rattle.cache_config.specs.declared.profile.Region.{Region}
use Rattle.cache_config.specs.declared.spans.Span.{Span}
use Rattle.cache_config.specs.Keys.{Array, Row, array_row, cache_tables, class_rows, profile_row, profile_rows, region_tables}
use Rattle.cache_config.specs.Limits.{AreApart, IsOffStack, area_above, most_regions}
use Rattle.cache_config.specs.Faults.{array_faults, chain_rule, path_of, place_rule, profile_faults, range_fault, row_faults, stack_faults, table_faults, unknown_faults, value_faults}
use Rattle.cache_config.specs.Caches.{cache, cache_of}
use Rattle.cache_config.specs.Profiles.{span}
use Rattle.cache_config.specs.Spans.{is_stack_kept, size_of, span_of, stack_by, stack_of, top_of}
use Rattle.cache_config.specs.Values.{caches_of, costs_of, elements_in, fits, is_kept, regions_of}
use Rattle.lru_concrete.specs.Limits.{most_levels}
use Rattle.lru_concrete.specs.declared.level.Level.{Level}
use Rattle.cache_config.proofs.EmptyLemmas.{empty_both, failed_test, kept_test}

-- Each part of lists that are empty together.
each_empty : {X : Type 0} (faults : X → List Fault) (xs : List X) → flat_map faults xs ≡ [] → AllByRecursion (λ x. faults x ≡ []) xs
each_empty faults [] e = tt
each_empty faults (x ∷ xs) e =
    let (here, rest) = empty_both (faults x) (flat_map faults xs) e in
    (here, each_empty faults xs rest)

kept-by : (prefix : List ℕ) (row : Row) (d : Option Data) → value_faults prefix row d ≡ [] → option_map_or (fits row.kind) d true ≡ true
kept-by prefix row None e = refl
kept-by prefix row (Some d) e = kept_test (fits row.kind d) (range_fault (path_of prefix row.name)) e

few-by : (most : ℕ) (d : Option Data) → option_map_or (fits (Array most)) d true ≡ true → length (option_map_or elements_in d []) ≤ most
few-by most None e = omega arith
few-by most (Some d) e =
    let (array, few) = and_parts _ (nat_le (length (elements_in d)) most) e in
    grind (arith, nat_tests)

stack-by : (a b : Bool) (top size : ℕ) → a ≡ true → b ≡ true → nat_lt top size ≡ false →
    stack_by (a && b) top size ≡ Some (record { start = top - size; size = size + area_above })
stack-by a b top size first second low =
    let fits : nat_le size top ≡ true = grind (arith, nat_tests) in
    rw (first, second, fits) refl

pub record IsFaultless (ms : Members) : Type 0 where
  pub fits : size_of ms ≤ top_of ms
  pub stack : stack_of ms ≡ Some (record { start = top_of ms - size_of ms; size = size_of ms + area_above })
  pub few_caches : length (caches_of ms) ≤ most_levels
  pub caches : array_faults cache_tables chain_rule (caches_of ms) ≡ []
  pub few_regions : length (regions_of ms) ≤ most_regions
  pub regions : array_faults region_tables (place_rule (stack_of ms)) (regions_of ms) ≡ []

pub faultless : (ms : Members) → profile_faults ms ≡ [] → IsFaultless ms
faultless ms e =
    let stack_top = profile_row (codes "stack_top") in
    let stack_size = profile_row (codes "stack_size") in
    let cached = array_faults cache_tables chain_rule (caches_of ms) in
    let placed = array_faults region_tables (place_rule (stack_of ms)) (regions_of ms) in
    let costs = table_faults (codes "cycles.") class_rows (costs_of ms) in
    let (table, more) = empty_both (table_faults [] profile_rows ms) (costs ++ (stack_faults ms ++ (cached ++ placed))) e in
    let (inner, joint) = empty_both costs (stack_faults ms ++ (cached ++ placed)) more in
    let (stack, arrays) = empty_both (stack_faults ms) (cached ++ placed) joint in
    let (caches, regions) = empty_both cached placed arrays in
    let (unknown, rows) = empty_both (unknown_faults [] profile_rows ms) (flat_map (row_faults [] ms) profile_rows) table in
    let each = each_empty (row_faults [] ms) profile_rows rows in
    let top = kept-by [] stack_top (get_member stack_top.name ms) each.1.1.1.1.0 in
    let size = kept-by [] stack_size (get_member stack_size.name ms) each.1.1.1.1.1.0 in
    let cache = kept-by [] (array_row cache_tables) (get_member cache_tables.name ms) each.1.1.1.1.1.1.1.1.1.0 in
    let region = kept-by [] (array_row region_tables) (get_member region_tables.name ms) each.1.1.1.1.1.1.1.1.1.1.0 in
    let low = failed_test (is_stack_kept ms && nat_lt (top_of ms) (size_of ms)) (range_fault (path_of [] (codes "stack_top"))) stack in
    let low_top : nat_lt (top_of ms) (size_of ms) ≡ false = rw (top, size) at low in
    record {
      fits = grind (arith, nat_tests);
      stack = stack-by (is_kept stack_top ms) (is_kept stack_size ms) (top_of ms) (size_of ms) top size low_top;
      few_caches = few-by most_levels (get_member cache_tables.name ms) cache;
      caches = caches;
      few_regions = few-by most_regions (get_member region_tables.name ms) region;
      regions = regions;
    }

-- The span of the stack that was found.
pub same_stack : (ms : Members) (stack : Span) → IsFaultless ms → stack_of ms ≡ Some stack →
    record { start = top_of ms - size_of ms; size = size_of ms + area_above } ≡ stack
same_stack ms stack free found = ap (λ o. unwrap_or o stack) (sym free.stack ∙ found)

-- The regions lie off the stack.
pub all_off_stack : (top size : ℕ) (stack : Span) (regions : List Region) → record { start = top - size; size = size + area_above } ≡ stack →
    All (λ r. AreApart stack.start stack.size r.start r.size) regions → All (λ r. IsOffStack top size r.start r.size) regions
all_off_stack top size stack regions same off =
    subst (λ s. All (λ r. AreApart s.start s.size r.start r.size) regions) (sym same) off

-- There are as many regions as elements.
pub few_regions : (regions : List Region) (ds : List Data) → map (λ r. Some (span r)) regions ≡ map span_of ds → length ds ≤ most_regions → length regions ≤ most_regions
few_regions regions ds e few =
    let same : length regions ≡ length ds = sym (length-map regions (λ r. Some (span r))) ∙ ap length e ∙ length-map ds span_of in
    rw same few

-- There are as many caches as elements.
pub few_caches : (levels : List Level) (ds : List Data) → map (λ (level : Level). Some (cache level)) levels ≡ map cache_of ds → length ds ≤ most_levels → length levels ≤ most_levels
few_caches levels ds e few =
    let same : length levels ≡ length ds = sym (length-map levels (λ (level : Level). Some (cache level))) ∙ ap length e ∙ length-map ds cache_of in
    rw same few
