-- The rows of the key table that the code holds.
use Rattle.std.specs.Prelude.{ℕ, ◌≡◌, ◌≤◌, ◌<◌, ◌%◌, ⊤, true, length, map}
use Rattle.std.specs.Int.{is_power_of_two}
use Rattle.cache_config.specs.declared.keys.Key.{Key}
use Rattle.cache_config.specs.declared.keys.Kind as code
use Rattle.cache_config.specs.declared.keys.Kind.TheVariants as code_kind
use Rattle.cache_config.specs.declared.keys.Absent as code_absent
use Rattle.cache_config.specs.declared.keys.Tables as code_tables
use Rattle.cache_config.specs.declared.keys.Absent.TheVariants as code_default
use Rattle.cache_config.specs.Keys.{Kind, Number, Eights, Power, Text, OneOf, Table, Array, Absent, Default, Word, Nothing, Required, Row, Tables, row}
use Rattle.cache_config.specs.Values.{default_of}

-- What a key of the code asks for.
abbrev pub kind_of : code.Kind → Kind
kind_of (code_kind.Number least most) = Number least most
kind_of (code_kind.Eights least most) = Eights least most
kind_of (code_kind.Power least most) = Power least most
kind_of code_kind.Text = Text
kind_of (code_kind.OneOf words) = OneOf (map (λ w. w.now) words.now)
kind_of code_kind.Table = Table
kind_of (code_kind.Array most) = Array most

-- What holds without a key of the code.
abbrev pub absent_of : code_absent.Absent → Absent
absent_of (code_default.Default number) = Default number
absent_of (code_default.Word word) = Word word.now
absent_of code_default.Nothing = Nothing
absent_of code_default.Required = Required

-- The row that a key of the code is.
abbrev pub row_of : Key → Row
row_of key = row key.name.now (kind_of key.kind) (absent_of key.absent)

-- The array of tables that one of the code is.
abbrev pub tables_of : code_tables.Tables → Tables
tables_of tables = record { name = tables.name.now; most = tables.most; rows = map row_of tables.keys.now }

-- The number is within the limits of the kind.
abbrev pub IsWithin : Kind → ℕ → Type 0
IsWithin (Number least most) n = (least ≤ n) × (n ≤ most)
IsWithin (Eights least most) n = (least ≤ n) × (n ≤ most) × (n % 8 ≡ 0)
IsWithin (Power least most) n = (least ≤ n) × (n ≤ most) × (is_power_of_two n ≡ true)
IsWithin Text n = ⊤
IsWithin (OneOf words) n = n < length words
IsWithin Table n = ⊤
IsWithin (Array most) n = ⊤

-- A default is within the limits of its key.
abbrev pub HasLawfulDefault : Row → Type 0
HasLawfulDefault row = IsWithin row.kind (default_of row)

-- There is a default.
abbrev pub HasDefault : Absent → Type 0
HasDefault (Default number) = ⊤
HasDefault (Word word) = ⊤
HasDefault Nothing = ⊥
HasDefault Required = ⊥
