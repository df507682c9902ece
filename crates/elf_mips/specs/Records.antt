-- Records of a file: where they stand, and what they say.
use Rattle.std.specs.Prelude.{ℕ, ◌+◌, ◌&&◌, nat_lt, Bool, List, map, filter, flat_map}
use Rattle.std.specs.List.{range_with_len}
use Rattle.elf_mips.specs.Fields.{number_at, e_shnum}
use Rattle.elf_mips.specs.Sections.{section_at, entries, is_record_section}
use Rattle.elf_mips.specs.Marks.{is_lawful}
use Rattle.elf_mips.specs.declared.mark.Mark.{Mark}

-- The record at an offset: kind, address, x and y.
abbrev pub mark_at : List ℕ → ℕ → Mark
mark_at file at = record {
  kind = number_at 4 (at + 0) file;
  address = number_at 4 (at + 4) file;
  x = number_at 4 (at + 8) file;
  y = number_at 4 (at + 12) file;
}

-- The headers of the sections named `.wcet` among the first n sections, in their order.
abbrev pub record_sections : List ℕ → ℕ → List ℕ
record_sections file n =
    filter (is_record_section file) (map (section_at file) (range_with_len 0 n))

-- The offsets of their records, section by section.
abbrev pub record_places_to : List ℕ → ℕ → List ℕ
record_places_to file n = flat_map (entries file) (record_sections file n)

-- The offsets of all records.
abbrev pub record_places : List ℕ → List ℕ
record_places file = record_places_to file (e_shnum file)

-- The record of this number, from 0, at an offset is good: it is one of the first 65,536, and lawful.
abbrev pub is_good_record : List ℕ → ℕ → ℕ → Bool
is_good_record file number at = nat_lt number 65536 && is_lawful (mark_at file at)

-- The records of a file, in their order.
abbrev pub marks_of : List ℕ → List Mark
marks_of file = map (mark_at file) (record_places file)
