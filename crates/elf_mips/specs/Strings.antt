-- String tables (SHT_STRTAB): strings, each with a zero byte behind it.
use Rattle.std.specs.Prelude.{ℕ, ◌==◌, List, [], ◌∷◌, drop, Option, Some, None, option_map, if◌then◌else◌}

-- The string at the front of these bytes: those before the first zero byte. Where no byte is zero, there
-- is none.
abbrev pub front_string : List ℕ → Option (List ℕ)
front_string [] = None
front_string (b ∷ bytes) =
    if b == 0 then Some [] else option_map (λ rest. b ∷ rest) (front_string bytes)

-- The string at an offset of a string table.
abbrev pub string_at : List ℕ → ℕ → Option (List ℕ)
string_at table at = front_string (drop at table)
