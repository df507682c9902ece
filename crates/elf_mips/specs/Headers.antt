-- Program headers: where they stand, which are loaded and good, and the segments they stand for.
use Rattle.std.specs.Prelude.{ℕ, ◌<◌, ◌≤◌, ◌+◌, ◌-◌, ◌*◌, ◌==◌, ◌&&◌, ◌||◌, nat_lt, nat_le, not, Bool, List, ◌++◌, length, take, drop, replicate, map, filter, sum_by}
use Rattle.std.specs.List.{list_any, range_with_len}
use Rattle.elf_mips.specs.Fields.{e_phoff, e_phnum, p_type, p_offset, p_vaddr, p_filesz, p_memsz, p_flags}
use Rattle.elf_mips.specs.declared.segment.Segment.{Segment}

-- The offset of the program header of this number, from 0. Each has 32 bytes.
abbrev pub header_at : List ℕ → ℕ → ℕ
header_at file number = e_phoff file + 32 * number

-- Each program header lies in the file.
abbrev pub HasHeaders : List ℕ → Type 0
HasHeaders file =
    (number : ℕ) → number < e_phnum file → header_at file number + 32 ≤ length file

-- The program header at an offset is loaded: its type is PT_LOAD, and it has bytes in memory.
abbrev pub is_loaded : List ℕ → ℕ → Bool
is_loaded file at = p_type at file == 1 && nat_lt 0 (p_memsz at file)

-- The offsets of the loaded ones among the first n program headers, in their order.
abbrev pub loaded : List ℕ → ℕ → List ℕ
loaded file n = filter (is_loaded file) (map (header_at file) (range_with_len 0 n))

-- The part of the file lies in the file, and is no longer than the segment.
abbrev pub has_part : List ℕ → ℕ → Bool
has_part file at =
    nat_le (p_offset at file + p_filesz at file) (length file)
    && nat_le (p_filesz at file) (p_memsz at file)

-- The segment ends at FFFFFFF0 or below.
abbrev pub ends_low : List ℕ → ℕ → Bool
ends_low file at = nat_le (p_vaddr at file + p_memsz at file) 0xFFFFFFF0

-- The segments of two program headers share an address.
abbrev pub overlaps : List ℕ → ℕ → ℕ → Bool
overlaps file at other =
    nat_lt (p_vaddr other file) (p_vaddr at file + p_memsz at file)
    && nat_lt (p_vaddr at file) (p_vaddr other file + p_memsz other file)

-- The bytes in memory of the loaded ones among the first n program headers.
abbrev pub loaded_size : List ℕ → ℕ → ℕ
loaded_size file n = sum_by (λ at. p_memsz at file) (loaded file n)

-- The program header of this number is good, or isn't loaded. A good one has its part of the file,
-- ends at FFFFFFF0 or below, shares no address with an earlier loaded one, and together with those
-- has at most 64 MiB. The earlier ones count whether they are good or not; since the first bad one
-- is answered, only good ones stand before it.
abbrev pub is_good : List ℕ → ℕ → Bool
is_good file number =
    not (is_loaded file (header_at file number))
    || has_part file (header_at file number)
    && ends_low file (header_at file number)
    && not (list_any (overlaps file (header_at file number)) (loaded file number))
    && nat_le (loaded_size file (number + 1)) 67108864

-- The bytes of a segment: its part of the file, and zeros past that.
abbrev pub loaded_bytes : List ℕ → ℕ → List ℕ
loaded_bytes file at =
    take (p_filesz at file) (drop (p_offset at file) file)
    ++ replicate (p_memsz at file - p_filesz at file) 0

-- The segment of the program header at an offset.
abbrev pub segment_of : List ℕ → ℕ → Segment
segment_of file at = record {
  address = p_vaddr at file;
  size = p_memsz at file;
  flags = p_flags at file;
  bytes = loaded_bytes file at;
}

-- The segments of the loaded ones among the first n program headers, in their order.
abbrev pub segments_to : List ℕ → ℕ → List Segment
segments_to file n = map (segment_of file) (loaded file n)
