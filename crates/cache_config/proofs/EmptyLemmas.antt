-- What follows where there are no faults.
use Rattle.std.proofs.Common.{◌≡◌, ℕ, ◌+◌, ◌<◌, ◌≤◌, Bool, true, false, le-leb, List, [], ◌∷◌, ◌++◌, length, map, get_or, take, drop, Option, Some, None, refl, sym, ◌∙◌, if◌then◌else◌, is_some, option_and_then}
use Rattle.std.proofs.lemmas.Bool.{false≢true}
use Rattle.std.proofs.lemmas.List.{length-map, take-map, drop_more}
use Rattle.toml.specs.Data.{Data, Members, as_table, get_member}
use Rattle.toml.specs.View.{view}
use Rattle.toml.specs.declared.value.Value.{Value}
use Rattle.cache_config.specs.declared.fault.Fault.{Fault}
use Rattle.cache_config.specs.Caches.{cache_by, cache_in, cache_of, serves_by}
use Rattle.cache_config.specs.Faults.{JointRule, element_faults, element_prefix, numbered, row_faults, shape_by, shape_faults, unknown_faults, value_faults}
use Rattle.cache_config.specs.Keys.{Kind, Required, Tables, cache_row, cache_tables, region_row, region_tables, row}
use Rattle.cache_config.specs.Spans.{span_by, span_in, span_of}
use Rattle.cache_config.specs.Values.{fits, number_at, number_of}
use Rattle.std.specs.Prelude.{codes, flat_map, option_map}

-- Two lists that are empty together.
pub empty_both : {X : Type 0} (xs ys : List X) → xs ++ ys ≡ [] → (xs ≡ []) × (ys ≡ [])
empty_both [] ys e = (refl, e)
empty_both (x ∷ xs) ys e = absurd (cons_empty x (xs ++ ys) e)
  where
    cons_empty : {X : Type 0} (x : X) (xs : List X) → x ∷ xs ≡ [] → ⊥
    cons_empty x xs e = cc

-- A test whose failure would be a fault.
pub kept_test : (b : Bool) (fault : Fault) → (if b then [] else fault ∷ []) ≡ [] → b ≡ true
kept_test true fault e = refl
kept_test false fault e = cc

-- A test whose success would be a fault.
pub failed_test : (b : Bool) (fault : Fault) → (if b then fault ∷ [] else []) ≡ [] → b ≡ false
failed_test false fault e = refl
failed_test true fault e = cc

required : (prefix name : List ℕ) (kind : Kind) (d : Option Data) → ((e : Data) → fits kind e ≡ is_some (number_of kind e)) →
    value_faults prefix (row name kind Required) d ≡ [] → is_some (option_and_then (number_of kind) d) ≡ true
required prefix name kind None same e = cc
required prefix name kind (Some d) same e = sym (same d) ∙ kept_test (fits kind d) _ e

span-by : (start size : Option ℕ) → is_some start ≡ true → is_some size ≡ true → is_some (span_by start size) ≡ true
span-by None size a b = absurd (false≢true a)
span-by (Some start) None a b = absurd (false≢true b)
span-by (Some start) (Some size) a b = refl

region-by : (at : ℕ) (table : Option Members) → shape_by region_tables at table ≡ [] → is_some (option_and_then span_in table) ≡ true
region-by at None e = cc
region-by at (Some ms) e =
    let prefix = element_prefix region_tables.name at in
    let start = region_row (codes "start") in
    let size = region_row (codes "size") in
    let (unknown, rows) = empty_both (unknown_faults prefix region_tables.rows ms) (flat_map (row_faults prefix ms) region_tables.rows) e in
    let (first, more) = empty_both (row_faults prefix ms start) (row_faults prefix ms size ++ []) rows in
    let (second, end) = empty_both (row_faults prefix ms size) [] more in
    span-by (number_at start ms) (number_at size ms)
    (required prefix start.name start.kind (get_member start.name ms) (λ d. refl) first)
    (required prefix size.name size.kind (get_member size.name ms) (λ d. refl) second)

-- An element of `region` without a fault gives a span.
pub shape-span : (at : ℕ) (d : Data) → shape_faults region_tables at d ≡ [] → is_some (span_of d) ≡ true
shape-span at d e = region-by at (as_table d) e

cache-by : (what : Option ℕ) (sets ways line latency : Option ℕ) → is_some what ≡ true → is_some sets ≡ true → is_some ways ≡ true →
    is_some line ≡ true → is_some latency ≡ true → is_some (cache_by (option_map serves_by what) sets ways line latency) ≡ true
cache-by None sets ways line latency a b c d e = absurd (false≢true a)
cache-by (Some what) None ways line latency a b c d e = absurd (false≢true b)
cache-by (Some what) (Some sets) None line latency a b c d e = absurd (false≢true c)
cache-by (Some what) (Some sets) (Some ways) None latency a b c d e = absurd (false≢true d)
cache-by (Some what) (Some sets) (Some ways) (Some line) None a b c d e = absurd (false≢true e)
cache-by (Some what) (Some sets) (Some ways) (Some line) (Some latency) a b c d e = refl

cache-from : (at : ℕ) (table : Option Members) → shape_by cache_tables at table ≡ [] → is_some (option_and_then cache_in table) ≡ true
cache-from at None e = cc
cache-from at (Some ms) e =
    let prefix = element_prefix cache_tables.name at in
    let faults = row_faults prefix ms in
    let serves = cache_row (codes "serves") in
    let sets = cache_row (codes "sets") in
    let ways = cache_row (codes "ways") in
    let line = cache_row (codes "line") in
    let latency = cache_row (codes "latency") in
    let (unknown, rows) = empty_both (unknown_faults prefix cache_tables.rows ms) (flat_map faults cache_tables.rows) e in
    let (first, rest) = empty_both (faults serves) (faults sets ++ (faults ways ++ (faults line ++ (faults latency ++ [])))) rows in
    let (second, more) = empty_both (faults sets) (faults ways ++ (faults line ++ (faults latency ++ []))) rest in
    let (third, few) = empty_both (faults ways) (faults line ++ (faults latency ++ [])) more in
    let (fourth, last) = empty_both (faults line) (faults latency ++ []) few in
    let (fifth, end) = empty_both (faults latency) [] last in
    cache-by (number_at serves ms) (number_at sets ms) (number_at ways ms) (number_at line ms) (number_at latency ms)
    (required prefix serves.name serves.kind (get_member serves.name ms) (λ d. refl) first)
    (required prefix sets.name sets.kind (get_member sets.name ms) (λ d. refl) second)
    (required prefix ways.name ways.kind (get_member ways.name ms) (λ d. refl) third)
    (required prefix line.name line.kind (get_member line.name ms) (λ d. refl) fourth)
    (required prefix latency.name latency.kind (get_member latency.name ms) (λ d. refl) fifth)

-- An element of `cache` without a fault gives a cache.
pub shape-cache : (at : ℕ) (d : Data) → shape_faults cache_tables at d ≡ [] → is_some (cache_of d) ≡ true
shape-cache at d e = cache-from at (as_table d) e

-- What has no fault, where the elements from one on have none.
pub record IsFreeAt (tables : Tables) (rule : JointRule) (values : List Value) (at : ℕ) (value : Value) : Type 0 where
  pub shape : shape_faults tables at (view value) ≡ []
  pub joint : rule (map view (take at values)) at (view value) ≡ []
  pub rest : numbered (element_faults tables rule (map view values)) (at + 1) (map view (drop (at + 1) values)) ≡ []

pub free_at : (tables : Tables) (rule : JointRule) (values : List Value) (at : ℕ) (value : Value) → length values ≤ tables.most → at < length values →
    get_or values at value ≡ value → numbered (element_faults tables rule (map view values)) at (map view (drop at values)) ≡ [] →
    IsFreeAt tables rule values at value
free_at tables rule values at value few low is e =
    let faults = element_faults tables rule (map view values) in
    let step : numbered faults at (map view (drop at values)) ≡ faults at (view value) ++ numbered faults (at + 1) (map view (drop (at + 1) values))
    = rw (drop_more values at value low, is) refl in
    let (here, rest) = empty_both (faults at (view value)) (numbered faults (at + 1) (map view (drop (at + 1) values))) (sym step ∙ e) in
    let joint = rule (map view (take at values)) at (view value) in
    let all : faults at (view value) ≡ shape_faults tables at (view value) ++ joint
    = rw (length-map values view, le-leb (length values) tables.most few, take-map view at values) refl in
    let (shape, placed) = empty_both (shape_faults tables at (view value)) joint (sym all ∙ here) in
    record { shape = shape; joint = placed; rest = rest }
