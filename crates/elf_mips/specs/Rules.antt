-- What a file must keep: for each kind of fault a list of rules. They stand by rising places, but for
-- those of records, which stand in the order of their sections.
use Rattle.std.specs.Prelude.{◌≡◌, ℕ, ◌≤◌, ◌+◌, ◌*◌, ◌==◌, ◌||◌, nat_lt, nat_le, not, Bool, List, [], ◌∷◌, length, map, filter, All, Contains, Option, Some, None, if◌then◌else◌}
use Rattle.std.specs.List.{range_with_len, enumerate_from}
use Rattle.elf_mips.specs.Fields.{magic, class, encoding, ident_version, e_type, e_machine, e_version, e_phoff, e_shoff, e_phentsize, e_phnum, e_shentsize, e_shnum, e_shstrndx}
use Rattle.elf_mips.specs.Headers.{header_at, is_good}
use Rattle.elf_mips.specs.Sections.{section_at, is_good_section}
use Rattle.elf_mips.specs.Records.{record_places, is_good_record}

-- Whether a rule is kept, and the place of the fault where it isn't.
pub record Rule : Type 0 where
  pub kept : Bool
  pub place : ℕ

abbrev pub rule : Bool → ℕ → Rule
rule kept place = record { kept = kept; place = place }

-- The places of the rules that are broken.
abbrev pub broken_places : List Rule → List ℕ
broken_places rules = map (λ r. r.place) (filter (λ r. not r.kept) rules)

-- The place of the first rule that is broken.
abbrev pub first_place : List Rule → Option ℕ
first_place [] = None
first_place (r ∷ rules) = if r.kept then first_place rules else Some r.place

-- The place is one of these, and none is lesser.
pub record IsLeast (place : ℕ) (places : List ℕ) : Type 0 where
  pub here : Contains places place
  pub least : All (λ other. place ≤ other) places

-- The least of these places; there is none where there are no places.
abbrev pub IsLeastOf : List ℕ → Option ℕ → Type 0
IsLeastOf places None = places ≡ []
IsLeastOf places (Some place) = IsLeast place places

-- Short: the file has the bytes of an ELF header. The place is its length.
unfoldable pub size_rules : List ℕ → List Rule
size_rules file = rule (nat_le 52 (length file)) (length file) ∷ []

-- Not ELF: the file begins with the magic number.
unfoldable pub magic_rules : List ℕ → List Rule
magic_rules file = rule (magic file == 0x7F454C46) 0 ∷ []

-- Not this kind: ELFCLASS32, ELFDATA2MSB, EV_CURRENT, ET_EXEC, EM_MIPS, EV_CURRENT.
unfoldable pub kind_rules : List ℕ → List Rule
kind_rules file =
    rule (class file == 1) 0x04
    ∷ rule (encoding file == 2) 0x05
    ∷ rule (ident_version file == 1) 0x06
    ∷ rule (e_type file == 2) 0x10
    ∷ rule (e_machine file == 8) 0x12
    ∷ rule (e_version file == 1) 0x14
    ∷ []

-- Bad table: the tables of e_phnum program headers and e_shnum section headers lie in the file, and
-- their entries have 32 and 40 bytes. Where a table has no entries, its place and the size of an
-- entry aren't looked at. There are fewer than 65,535 program headers (PN_XNUM), a table of section
-- headers that has a place has entries, and their names stand in one of the sections.
unfoldable pub table_rules : List ℕ → List Rule
table_rules file =
    rule (e_phnum file == 0 || nat_le (e_phoff file + 32 * e_phnum file) (length file)) 0x1C
    ∷ rule (e_shnum file == 0 || nat_le (e_shoff file + 40 * e_shnum file) (length file)) 0x20
    ∷ rule (e_phnum file == 0 || e_phentsize file == 32) 0x2A
    ∷ rule (nat_lt (e_phnum file) 65535) 0x2C
    ∷ rule (e_shnum file == 0 || e_shentsize file == 40) 0x2E
    ∷ rule (e_shoff file == 0 || not (e_shnum file == 0)) 0x30
    ∷ rule (e_shnum file == 0 || nat_lt (e_shstrndx file) (e_shnum file)) 0x32
    ∷ []

-- Bad segment: each program header is good or isn't loaded. The place is the program header's.
unfoldable pub segment_rules : List ℕ → List Rule
segment_rules file =
    map (λ number. rule (is_good file number) (header_at file number))
    (range_with_len 0 (e_phnum file))

-- Bad section: each section is good or isn't read. The place is the section header's.
unfoldable pub section_rules : List ℕ → List Rule
section_rules file =
    map (λ number. rule (is_good_section file number) (section_at file number))
    (range_with_len 0 (e_shnum file))

-- The rules of records at these places, which are numbered from `first` on.
abbrev pub record_rules_from : List ℕ → ℕ → List ℕ → List Rule
record_rules_from file first places =
    map (λ p. rule (is_good_record file p.0 p.1) p.1) (enumerate_from first places)

-- Bad record: each record is good. The place is the record's.
unfoldable pub record_rules : List ℕ → List Rule
record_rules file = record_rules_from file 0 (record_places file)
