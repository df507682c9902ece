-- Section headers: where they stand, what their sections are, and what those that are read must keep.
use Rattle.std.specs.Prelude.{◌≡◌, ℕ, ◌<◌, ◌≤◌, ◌+◌, ◌*◌, ◌/◌, ◌%◌, ◌==◌, ◌&&◌, ◌||◌, nat_lt, nat_le, not, Bool, true, false, List, [], length, take, drop, map, bytes_eq, codes, if◌then◌else◌}
use Rattle.std.specs.List.{range_with_len}
use Rattle.std.specs.Option.{option_map_or}
use Rattle.elf_mips.specs.Fields.{e_shoff, e_shnum, e_shstrndx, sh_name, sh_type, sh_flags, sh_offset, sh_size, sh_link}
use Rattle.elf_mips.specs.Strings.{string_at}

-- The offset of the section header of this number, from 0. Each has 40 bytes.
abbrev pub section_at : List ℕ → ℕ → ℕ
section_at file number = e_shoff file + 40 * number

-- Each section header lies in the file.
abbrev pub HasSections : List ℕ → Type 0
HasSections file =
    (number : ℕ) → number < e_shnum file → section_at file number + 40 ≤ length file

-- The section lies in the file: it has bytes there (its type isn't SHT_NOBITS), and they end in the file.
abbrev pub lies : List ℕ → ℕ → Bool
lies file at =
    not (sh_type at file == 8) && nat_le (sh_offset at file + sh_size at file) (length file)

-- The bytes of a section that lies in the file.
abbrev pub section_bytes : List ℕ → ℕ → List ℕ
section_bytes file at = take (sh_size at file) (drop (sh_offset at file) file)

-- The offsets of a section's entries of 16 bytes. A rest of fewer bytes is passed over.
abbrev pub entries : List ℕ → ℕ → List ℕ
entries file at = map (λ k. sh_offset at file + 16 * k) (range_with_len 0 (sh_size at file / 16))

-- Section e_shstrndx holds names, if it isn't 0 (SHN_UNDEF) and lies in the file.
abbrev pub has_names : List ℕ → Bool
has_names file =
    not (e_shstrndx file == 0)
    && nat_lt (e_shstrndx file) (e_shnum file)
    && lies file (section_at file (e_shstrndx file))

-- The names of sections, each with a zero byte behind it.
abbrev pub names : List ℕ → List ℕ
names file = if has_names file then section_bytes file (section_at file (e_shstrndx file)) else []

-- The section is named `.wcet`: this is the string at sh_name in the names.
abbrev pub is_record_section : List ℕ → ℕ → Bool
is_record_section file at =
    option_map_or (bytes_eq (codes ".wcet")) (string_at (names file) (sh_name at file)) false

-- The section is a symbol table (SHT_SYMTAB).
abbrev pub is_symbol_table : List ℕ → ℕ → Bool
is_symbol_table file at = sh_type at file == 2

-- The section that holds the names lies in the file.
abbrev pub has_good_names : List ℕ → ℕ → Bool
has_good_names file number =
    number == 0 || not (number == e_shstrndx file) || lies file (section_at file number)

-- A section named `.wcet` lies in the file, holds whole records, and isn't compressed (SHF_COMPRESSED).
abbrev pub has_good_records : List ℕ → ℕ → Bool
has_good_records file at =
    not (is_record_section file at)
    || lies file at && sh_size at file % 16 == 0 && sh_flags at file / 0x800 % 2 == 0

-- A symbol table lies in the file, and so does the section of its strings, that of number sh_link.
abbrev pub has_good_symbols : List ℕ → ℕ → Bool
has_good_symbols file at =
    not (is_symbol_table file at)
    || lies file at
    && nat_lt (sh_link at file) (e_shnum file)
    && lies file (section_at file (sh_link at file))

-- The section of this number is good, or isn't read.
abbrev pub is_good_section : List ℕ → ℕ → Bool
is_good_section file number =
    has_good_names file number
    && has_good_records file (section_at file number)
    && has_good_symbols file (section_at file number)

-- Each section is good.
abbrev pub AreGoodSections : List ℕ → Type 0
AreGoodSections file = (number : ℕ) → number < e_shnum file → is_good_section file number ≡ true
