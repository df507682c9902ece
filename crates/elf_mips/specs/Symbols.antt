-- Symbols: those of a file, and those of an image by their names.
use Rattle.std.specs.Prelude.{ℕ, ◌==◌, ◌&&◌, nat_lt, nat_le, List, [], length, map, filter_map, Option, Some, None, option_map, option_and_then, find, bytes_eq, if◌then◌else◌}
use Rattle.std.specs.List.{range_with_len}
use Rattle.std.specs.Option.{option_map_or}
use Rattle.elf_mips.specs.Fields.{e_shnum, sh_link, st_name, st_value, st_shndx}
use Rattle.elf_mips.specs.Sections.{section_at, section_bytes, entries, is_symbol_table}
use Rattle.elf_mips.specs.Strings.{string_at}
use Rattle.elf_mips.specs.declared.symbol.Symbol.{Symbol}

-- The value of the first symbol of this name.
abbrev pub symbol_at : List Symbol → List ℕ → Option ℕ
symbol_at symbols name = option_map (λ s. s.value) (find (λ s. bytes_eq s.name name) symbols)

-- The header of the first symbol table.
abbrev pub symbol_table : List ℕ → Option ℕ
symbol_table file =
    find (is_symbol_table file) (map (section_at file) (range_with_len 0 (e_shnum file)))

-- The strings of a symbol table: the bytes of the section of number sh_link.
abbrev pub strings_of : List ℕ → ℕ → List ℕ
strings_of file at = section_bytes file (section_at file (sh_link at file))

-- A string is a name where it has 1 to 1,024 bytes.
abbrev pub name_of : List ℕ → Option (List ℕ)
name_of string = if nat_lt 0 (length string) && nat_le (length string) 1024 then Some string else None

-- The name at an offset of the strings.
abbrev pub name_at : List ℕ → ℕ → Option (List ℕ)
name_at strings at = option_and_then name_of (string_at strings at)

-- The symbol of an entry. It counts where its section isn't 0 (SHN_UNDEF) and it has a name.
abbrev pub symbol_of : List ℕ → List ℕ → ℕ → Option Symbol
symbol_of file strings at =
    if st_shndx at file == 0
    then None
    else option_map
    (λ name. record { name = name; value = st_value at file })
    (name_at strings (st_name at file))

-- The symbols of the symbol table of this header, in their order.
abbrev pub symbols_in : List ℕ → ℕ → List Symbol
symbols_in file at = filter_map (symbol_of file (strings_of file at)) (entries file at)

-- The symbols of a file: those of the first symbol table.
abbrev pub symbols_of : List ℕ → List Symbol
symbols_of file = option_map_or (symbols_in file) (symbol_table file) []
