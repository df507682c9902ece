-- The addresses that the keys of a profile give to its stack and to its regions.
use Rattle.std.specs.Prelude.{ℕ, ◌+◌, ◌-◌, ◌&&◌, ◌||◌, nat_le, nat_lt, Bool, false, List, codes, Option, Some, None, option_map, option_and_then, if◌then◌else◌}
use Rattle.std.specs.List.{list_any}
use Rattle.std.specs.Option.{option_map_or}
use Rattle.toml.specs.Data.{Data, Members, as_table}
use Rattle.cache_config.specs.declared.spans.Span.{Span}
use Rattle.cache_config.specs.Keys.{profile_row, region_row}
use Rattle.cache_config.specs.Limits.{Covers, area_above, memory_end}
use Rattle.cache_config.specs.Values.{is_kept, number_at, value_of}

-- The addresses of the stack with the area above it, where `stack_top` and `stack_size` are within
-- their own limits and the stack begins at 0 or above.
abbrev pub stack_by : Bool → ℕ → ℕ → Option Span
stack_by kept top size =
    if kept && nat_le size top then Some (record { start = top - size; size = size + area_above }) else None

-- The numbers of the stack are within their own limits.
abbrev pub is_stack_kept : Members → Bool
is_stack_kept ms = is_kept (profile_row (codes "stack_top")) ms && is_kept (profile_row (codes "stack_size")) ms

abbrev pub top_of : Members → ℕ
top_of ms = value_of (profile_row (codes "stack_top")) ms

abbrev pub size_of : Members → ℕ
size_of ms = value_of (profile_row (codes "stack_size")) ms

abbrev pub stack_of : Members → Option Span
stack_of ms = stack_by (is_stack_kept ms) (top_of ms) (size_of ms)

-- The addresses from a start on, where both numbers are there.
abbrev pub span_by : Option ℕ → Option ℕ → Option Span
span_by start size = option_and_then (λ a. option_map (λ n. record { start = a; size = n }) size) start

-- The addresses that a table of `region` gives, where its start and size are within their own limits.
abbrev pub span_in : Members → Option Span
span_in ms = span_by (number_at (region_row (codes "start")) ms) (number_at (region_row (codes "size")) ms)

-- The same of an element: none where it isn't a table.
abbrev pub span_of : Data → Option Span
span_of d = option_and_then span_in (as_table d)

-- The two spans share an address.
pub record SharesAddress (s t : Span) : Type 0 where
  pub address : ℕ
  pub here : Covers s.start s.size address
  pub there : Covers t.start t.size address

-- The same as a test, of spans that aren't empty: each begins before the other one's end.
abbrev pub meets : Span → Span → Bool
meets s t = nat_lt s.start (t.start + t.size) && nat_lt t.start (s.start + s.size)

abbrev pub meets_some : Span → Option Span → Bool
meets_some s t = option_map_or (meets s) t false

-- A region ends past the end of memory, or shares an address with the stack or with an earlier element. Only a span
-- whose numbers are within their own limits is looked at, and compared with such ones.
abbrev pub is_misplaced : Option Span → List Data → Span → Bool
is_misplaced stack earlier s =
    nat_lt memory_end (s.start + s.size) || (meets_some s stack || list_any (λ d. meets_some s (span_of d)) earlier)
