-- What the value at a key is: a number, a text, a table or elements.
use Rattle.std.specs.Prelude.{ℕ, ℤ, pos, negsuc, ◌+◌, ◌%◌, ◌==◌, ◌&&◌, nat_le, Bool, true, List, [], ◌∷◌, length, bytes_eq, codes, Option, Some, None, is_some, unwrap_or, option_and_then, if◌then◌else◌}
use Rattle.std.specs.Int.{is_power_of_two}
use Rattle.std.specs.Option.{option_map_or}
use Rattle.toml.specs.Data.{Data, Items, no_items, item, Members, no_members, get_member, as_array, as_integer, as_str, as_table}
use Rattle.cache_config.specs.Keys.{Kind, Number, Eights, Power, Text, OneOf, Table, Array, Absent, Default, Word, Nothing, Required, Row, cache_tables, region_tables}

-- The integer as a number from least to most; none where it isn't one.
abbrev pub within : ℕ → ℕ → ℤ → Option ℕ
within least most (pos n) = if nat_le least n && nat_le n most then Some n else None
within least most (negsuc n) = None

-- The number where it is a multiple of 8.
abbrev pub eights : Option ℕ → Option ℕ
eights None = None
eights (Some n) = if n % 8 == 0 then Some n else None

-- The number where it is a power of two.
abbrev pub powers : Option ℕ → Option ℕ
powers None = None
powers (Some n) = if is_power_of_two n then Some n else None

-- The place of a word among some words, the first of which has this number.
abbrev pub place_from : ℕ → List (List ℕ) → List ℕ → Option ℕ
place_from at [] word = None
place_from at (known ∷ words) word = if bytes_eq known word then Some at else place_from (at + 1) words word

-- The place of a word among some words, from 0.
abbrev pub place_of : List (List ℕ) → List ℕ → Option ℕ
place_of words word = place_from 0 words word

-- The number that the value is, where the kind asks for a number or for one of some words and the value is within its
-- limits. Only an integer is a number: a float, a date or a text isn't one. A word counts as its place among the words.
abbrev pub number_of : Kind → Data → Option ℕ
number_of (Number least most) d = option_and_then (within least most) (as_integer d)
number_of (Eights least most) d = eights (option_and_then (within least most) (as_integer d))
number_of (Power least most) d = powers (option_and_then (within least most) (as_integer d))
number_of Text d = None
number_of (OneOf words) d = option_and_then (place_of words) (as_str d)
number_of Table d = None
number_of (Array most) d = None

-- The elements of an array as a list.
abbrev pub elements : Items → List Data
elements no_items = []
elements (item d ds) = d ∷ elements ds

-- The elements of a value: none where it isn't an array.
abbrev pub elements_in : Data → List Data
elements_in d = option_map_or elements (as_array d) []

-- The members of a value: none where it isn't a table.
abbrev pub members_in : Data → Members
members_in d = option_map_or (λ ms. ms) (as_table d) no_members

-- The value is of the kind and within the kind's limits, whatever stands inside it.
abbrev pub fits : Kind → Data → Bool
fits (Number least most) d = is_some (number_of (Number least most) d)
fits (Eights least most) d = is_some (number_of (Eights least most) d)
fits (Power least most) d = is_some (number_of (Power least most) d)
fits Text d = is_some (as_str d)
fits (OneOf words) d = is_some (number_of (OneOf words) d)
fits Table d = is_some (as_table d)
fits (Array most) d = is_some (as_array d) && nat_le (length (elements_in d)) most

-- The number at a key; none where no number within the key's limits stands there.
abbrev pub number_at : Row → Members → Option ℕ
number_at row ms = option_and_then (number_of row.kind) (get_member row.name ms)

-- The words of a kind; none where it doesn't ask for one of some words.
abbrev pub words_of : Kind → List (List ℕ)
words_of (OneOf words) = words
words_of kind = []

-- The number that holds without a key; 0 where none does.
abbrev pub default_by : Kind → Absent → ℕ
default_by kind (Default number) = number
default_by kind (Word word) = unwrap_or (place_of (words_of kind) word) 0
default_by kind Nothing = 0
default_by kind Required = 0

abbrev pub default_of : Row → ℕ
default_of row = default_by row.kind row.absent

-- The number that a key with a default gives: the one that stands there, or else the default.
abbrev pub value_of : Row → Members → ℕ
value_of row ms = unwrap_or (number_at row ms) (default_of row)

-- A key that need not be there gives a value of its kind and within its limits, or isn't there.
abbrev pub is_kept : Row → Members → Bool
is_kept row ms = option_map_or (fits row.kind) (get_member row.name ms) true

-- The text at `entry`.
abbrev pub entry_of : Members → Option (List ℕ)
entry_of ms = option_and_then as_str (get_member (codes "entry") ms)

-- The members of the table at a key: none where no table stands there.
abbrev pub members_at : List ℕ → Members → Members
members_at name ms = option_map_or members_in (get_member name ms) no_members

-- The elements of the array at a key: none where no array stands there.
abbrev pub elements_at : List ℕ → Members → List Data
elements_at name ms = option_map_or elements_in (get_member name ms) []

-- The members of the table `cycles`, and the elements of the arrays `cache` and `region`.
abbrev pub costs_of : Members → Members
costs_of ms = members_at (codes "cycles") ms

abbrev pub caches_of : Members → List Data
caches_of ms = elements_at cache_tables.name ms

abbrev pub regions_of : Members → List Data
regions_of ms = elements_at region_tables.name ms
