-- The key table: what may stand at each key of a profile's text, and what holds without the key.
use Rattle.std.specs.Prelude.{ℕ, ◌-◌, List, [], ◌∷◌, bytes_eq, codes, map, if◌then◌else◌}
use Rattle.cache_config.specs.Limits.{area_above, least_stack, memory_end, most_bytes, most_cycles, most_regions, most_splits, most_steps}
use Rattle.lru_concrete.specs.Limits.{least_line, most_latency, most_levels, most_line, most_sets, most_ways}

-- What may stand at a key: an integer from least to most, also one that is a multiple of 8 or a power of two; a text,
-- also one that is one of some words; a table; an array of at most so many elements.
pub data Kind : Type 0 where
  Number : (least most : ℕ) → Kind
  Eights : (least most : ℕ) → Kind
  Power : (least most : ℕ) → Kind
  Text : Kind
  OneOf : (words : List (List ℕ)) → Kind
  Table : Kind
  Array : (most : ℕ) → Kind

-- What holds where a key isn't there: a number, a word, nothing, or that it has to be there.
pub data Absent : Type 0 where
  Default : (number : ℕ) → Absent
  Word : (word : List ℕ) → Absent
  Nothing : Absent
  Required : Absent

-- A row of the table: a key's name, what may stand there, and what holds where the key isn't there.
pub record Row : Type 0 where
  pub name : List ℕ
  pub kind : Kind
  pub absent : Absent

abbrev pub row : List ℕ → Kind → Absent → Row
row n k a = record { name = n; kind = k; absent = a }

-- An array of tables: its key's name, how many elements it may have, and the keys of each.
pub record Tables : Type 0 where
  pub name : List ℕ
  pub most : ℕ
  pub rows : List Row

abbrev pub array_row : Tables → Row
array_row tables = row tables.name (Array tables.most) Nothing

-- What a cache may serve.
abbrev pub serve_words : List (List ℕ)
serve_words = codes "fetch" ∷ codes "load" ∷ codes "both" ∷ []

abbrev pub cache_tables : Tables
cache_tables = record {
  name = codes "cache";
  most = most_levels;
  rows =
      row (codes "serves") (OneOf serve_words) Required ∷
      row (codes "sets") (Power 1 most_sets) Required ∷
      row (codes "ways") (Number 1 most_ways) Required ∷
      row (codes "line") (Power least_line most_line) Required ∷
      row (codes "latency") (Number 0 most_latency) Required ∷ [];
}

abbrev pub region_tables : Tables
region_tables = record {
  name = codes "region";
  most = most_regions;
  rows =
      row (codes "start") (Number 0 (memory_end - 1)) Required ∷
      row (codes "size") (Number 1 most_bytes) Required ∷ [];
}

-- The keys of a profile.
abbrev pub profile_rows : List Row
profile_rows =
    row (codes "memory") (Number 0 most_cycles) (Default 10) ∷
    row (codes "store") (Number 0 most_cycles) (Default 10) ∷
    row (codes "splits") (Number 0 most_splits) (Default 256) ∷
    row (codes "steps") (Number 1 most_steps) (Default 1000000) ∷
    row (codes "stack_top") (Eights 0 (memory_end - area_above)) (Default 0x7FFF0000) ∷
    row (codes "stack_size") (Eights least_stack most_bytes) (Default 65536) ∷
    row (codes "gp") (Number 0 0xFFFFFFFF) Nothing ∷
    row (codes "entry") Text Nothing ∷
    row (codes "cycles") Table Nothing ∷
    array_row cache_tables ∷
    array_row region_tables ∷ []

-- The key of a class of instructions in the table `cycles`.
abbrev pub class_row : List ℕ → Row
class_row name = row name (Number 1 most_cycles) (Default 1)

abbrev pub class_names : List (List ℕ)
class_names =
    codes "alu" ∷ codes "shift" ∷ codes "mult" ∷ codes "div" ∷ codes "move" ∷
    codes "load" ∷ codes "store" ∷ codes "branch" ∷ codes "jump" ∷ codes "stop" ∷ []

abbrev pub class_rows : List Row
class_rows = map class_row class_names

-- The row of a name, which has one.
abbrev pub named : List Row → List ℕ → Row
named [] name = row name Text Nothing
named (r ∷ rows) name = if bytes_eq r.name name then r else named rows name

abbrev pub profile_row : List ℕ → Row
profile_row = named profile_rows

abbrev pub cache_row : List ℕ → Row
cache_row = named cache_tables.rows

abbrev pub region_row : List ℕ → Row
region_row = named region_tables.rows
