-- The faults of a profile's text, each with its printed path, and which of them is answered.
use Rattle.std.specs.Prelude.{◌≡◌, ℕ, ◌+◌, ◌&&◌, nat_le, nat_lt, Bool, false, List, [], ◌∷◌, ◌++◌, length, map, flat_map, take, All, Contains, Option, Some, None, codes, decimal, bytes_eq, if◌then◌else◌}
use Rattle.std.specs.List.{list_any}
use Rattle.std.specs.Ordering.{nat_cmp, is_lt}
use Rattle.std.specs.Cmp.Lexicographic.{slice_cmp}
use Rattle.toml.specs.Data.{Data, Members, no_members, member, as_table, get_member}
use Rattle.cache_config.specs.declared.fault.Fault.{Fault}
use Rattle.cache_config.specs.declared.fault.FaultKind.{FaultKind}
use Rattle.cache_config.specs.declared.fault.FaultKind.TheVariants.{Key, Range}
use Rattle.cache_config.specs.declared.spans.Span.{Span}
use Rattle.cache_config.specs.Caches.{is_too_deep}
use Rattle.cache_config.specs.Keys.{Absent, Default, Word, Nothing, Required, Row, Tables, cache_tables, class_rows, profile_rows, region_tables}
use Rattle.cache_config.specs.Spans.{is_misplaced, is_stack_kept, size_of, span_of, stack_of, top_of}
use Rattle.cache_config.specs.Values.{caches_of, costs_of, fits, regions_of}

-- A byte of a key as it is printed: itself from 21 to 7E (hexadecimal), else a question mark.
abbrev pub printed : ℕ → ℕ
printed byte = if nat_le 0x21 byte && nat_le byte 0x7E then byte else 0x3F

-- The path of a key: what stands before it, and the key as it is printed.
abbrev pub path_of : List ℕ → List ℕ → List ℕ
path_of prefix name = prefix ++ map printed name

abbrev pub fault_at : FaultKind → List ℕ → Fault
fault_at what p = record { kind = what; path = p }

abbrev pub key_fault : List ℕ → Fault
key_fault = fault_at Key

abbrev pub range_fault : List ℕ → Fault
range_fault = fault_at Range

-- The names of the keys of a table.
abbrev pub names : Members → List (List ℕ)
names no_members = []
names (member name d ms) = name ∷ names ms

-- One of the rows has this name.
abbrev pub is_known : List Row → List ℕ → Bool
is_known rows name = list_any (λ row. bytes_eq row.name name) rows

-- A key that no row has.
abbrev pub unknown_fault : List ℕ → List Row → List ℕ → List Fault
unknown_fault prefix rows name = if is_known rows name then [] else key_fault (path_of prefix name) ∷ []

abbrev pub unknown_faults : List ℕ → List Row → Members → List Fault
unknown_faults prefix rows ms = flat_map (unknown_fault prefix rows) (names ms)

-- A key that isn't there, though it has to be.
abbrev pub absent_faults : Absent → List ℕ → List Fault
absent_faults (Default number) path = []
absent_faults (Word word) path = []
absent_faults Nothing path = []
absent_faults Required path = key_fault path ∷ []

-- What stands at the key of a row: a value of another kind or out of its limits, or nothing.
abbrev pub value_faults : List ℕ → Row → Option Data → List Fault
value_faults prefix row None = absent_faults row.absent (path_of prefix row.name)
value_faults prefix row (Some d) = if fits row.kind d then [] else range_fault (path_of prefix row.name) ∷ []

abbrev pub row_faults : List ℕ → Members → Row → List Fault
row_faults prefix ms row = value_faults prefix row (get_member row.name ms)

-- The faults of a table whose keys are these: unknown keys, and what stands at the known ones.
abbrev pub table_faults : List ℕ → List Row → Members → List Fault
table_faults prefix rows ms = unknown_faults prefix rows ms ++ flat_map (row_faults prefix ms) rows

-- The joint rule of the stack: its top is at least its size. It is looked at only where both are
-- within their own limits.
abbrev pub stack_faults : Members → List Fault
stack_faults ms =
    if is_stack_kept ms && nat_lt (top_of ms) (size_of ms) then range_fault (path_of [] (codes "stack_top")) ∷ [] else []

-- The path of an element of an array of tables, and what stands before a key inside it.
abbrev pub element_path : List ℕ → ℕ → List ℕ
element_path name at = name ++ codes "[" ++ decimal at ++ codes "]"

abbrev pub element_prefix : List ℕ → ℕ → List ℕ
element_prefix name at = name ++ codes "[" ++ decimal at ++ codes "]."

-- A joint rule of elements: the faults of an element by the ones before it, its number and what it is.
abbrev pub JointRule : Type 0
JointRule = List Data → ℕ → Data → List Fault

-- A fault at a key of the element of this number, by a test.
abbrev pub fault_inside : Bool → List ℕ → ℕ → List ℕ → List Fault
fault_inside broken name at key = if broken then range_fault (path_of (element_prefix name at) key) ∷ [] else []

-- The rules of regions: they end by the end of memory, and lie apart from the stack and from each other.
abbrev pub place_faults : Option Span → List Data → ℕ → Option Span → List Fault
place_faults stack earlier at None = []
place_faults stack earlier at (Some s) =
    fault_inside (is_misplaced stack earlier s) region_tables.name at (codes "start")

abbrev pub place_rule : Option Span → JointRule
place_rule stack earlier at d = place_faults stack earlier at (span_of d)

-- The rule of caches: no chain has more than three.
abbrev pub chain_rule : JointRule
chain_rule earlier at d = fault_inside (is_too_deep earlier d) cache_tables.name at (codes "serves")

-- The faults of an element by itself: it isn't a table, or its keys have faults.
abbrev pub shape_by : Tables → ℕ → Option Members → List Fault
shape_by tables at None = range_fault (element_path tables.name at) ∷ []
shape_by tables at (Some ms) = table_faults (element_prefix tables.name at) tables.rows ms

abbrev pub shape_faults : Tables → ℕ → Data → List Fault
shape_faults tables at d = shape_by tables at (as_table d)

-- The faults of the element of this number. Where there are too many elements, the array itself is a
-- fault and stands before each path inside it, so that the joint rules could change no answer.
abbrev pub element_faults : Tables → JointRule → List Data → ℕ → Data → List Fault
element_faults tables rule all at d =
    shape_faults tables at d ++ (if nat_le (length all) tables.most then rule (take at all) at d else [])

-- The faults of elements, the first of which has this number.
abbrev pub numbered : (ℕ → Data → List Fault) → ℕ → List Data → List Fault
numbered faults at [] = []
numbered faults at (d ∷ ds) = faults at d ++ numbered faults (at + 1) ds

abbrev pub array_faults : Tables → JointRule → List Data → List Fault
array_faults tables rule all = numbered (element_faults tables rule all) 0 all

-- All faults of a profile's text.
abbrev pub profile_faults : Members → List Fault
profile_faults ms =
    table_faults [] profile_rows ms
    ++ (table_faults (codes "cycles.") class_rows (costs_of ms)
    ++ (stack_faults ms
    ++ (array_faults cache_tables chain_rule (caches_of ms)
    ++ array_faults region_tables (place_rule (stack_of ms)) (regions_of ms))))

-- Faults of keys come before faults of values, and of one kind that whose printed path is less.
abbrev pub rank : FaultKind → ℕ
rank Key = 0
rank Range = 1

abbrev pub is_before : Fault → Fault → Bool
is_before f g = is_lt (slice_cmp nat_cmp (rank f.kind ∷ f.path) (rank g.kind ∷ g.path))

-- The fault that is answered: it is one of the faults, and none comes before it.
pub record IsFirst (faults : List Fault) (fault : Fault) : Type 0 where
  pub here : Contains faults fault
  pub first : All (λ other. is_before other fault ≡ false) faults
