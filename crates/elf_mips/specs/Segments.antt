-- Loaded segments: which addresses they cover, and what they hold there.
use Rattle.std.specs.Prelude.{◌≡◌, ℕ, ◌+◌, ◌-◌, ◌/◌, ◌%◌, ◌<◌, ◌≤◌, ◌==◌, ◌&&◌, nat_le, nat_lt, Bool, List, map, length, true, Option, Some, None, IsSome, is_some, option_map, option_and_then, find, All, AllPairs, sum_by, slice_index, slice_index_or, if◌then◌else◌}
use Rattle.std.specs.List.{enumerate_from, list_any}
use Rattle.elf_mips.specs.Fields.{number_at}
use Rattle.elf_mips.specs.declared.segment.Segment.{Segment}
use Rattle.elf_mips.specs.declared.segment.Start.{Start}

-- The n bytes from the address on lie in the segment.
abbrev pub holds : ℕ → ℕ → Segment → Bool
holds n address s = nat_le s.address address && nat_le (address + n) (s.address + s.size)

-- The segment is executable (PF_X, bit 0) and not writable (PF_W, bit 1).
abbrev pub is_code : Segment → Bool
is_code s = s.flags % 2 == 1 && s.flags / 2 % 2 == 0

-- The executable word at an address: the address is a multiple of 4, and the four bytes from it on
-- lie in one segment of code. They are read with the highest byte first.
abbrev pub code_at : List Segment → ℕ → Option ℕ
code_at segments address =
    if address % 4 == 0
    then option_map (λ s. number_at 4 (address - s.address) s.bytes)
    (find (λ s. holds 4 address s && is_code s) segments)
    else None

-- The segment is executable and writable, so that its words may change.
abbrev pub is_open : Segment → Bool
is_open s = s.flags % 2 == 1 && s.flags / 2 % 2 == 1

-- The address is a multiple of 4, and the four bytes from it on lie in one segment that is executable and
-- writable.
abbrev pub is_writable_word : List Segment → ℕ → Bool
is_writable_word segments address =
    address % 4 == 0 && is_some (find (λ s. holds 4 address s && is_open s) segments)

-- The byte that a segment holds at an address.
abbrev pub byte_at : List Segment → ℕ → Option ℕ
byte_at segments address =
    option_map (λ s. slice_index s.bytes (address - s.address)) (find (holds 1 address) segments)

-- The segment is the one that covers the address: whatever is looked for among those that cover it
-- is this one, or isn't there.
abbrev pub Finds : ℕ → List Segment → Option Segment → Type 0
Finds address segments found =
    (test : Segment → Bool) → ((s : Segment) → test s ≡ true → holds 1 address s ≡ true)
    → find test segments ≡ option_and_then (λ s. if test s then Some s else None) found

-- The segment covers the address.
abbrev pub Covers : Segment → ℕ → Type 0
Covers s address = (s.address ≤ address) × (address < s.address + s.size)

-- No address lies in both.
abbrev pub AreApart : Segment → Segment → Type 0
AreApart s t = (address : ℕ) → Covers s address → Covers t address → ⊥

-- The bytes are as many as the size says, and there is one at least.
pub record IsFilled (s : Segment) : Type 0 where
  pub sized : length s.bytes ≡ s.size
  pub some : 0 < s.size

-- The segment ends at FFFFFFF0 or below, so that no sum of an address in it and of 16 wraps.
abbrev pub EndsLow : Segment → Type 0
EndsLow s = s.address + s.size ≤ 0xFFFFFFF0

-- The bytes of all segments together.
abbrev pub total_size : List Segment → ℕ
total_size segments = sum_by (λ s. s.size) segments

-- The segment shares an address with those from `address` to below `end`.
abbrev pub shares : ℕ → ℕ → Segment → Bool
shares address end s = nat_lt s.address end && nat_lt address (s.address + s.size)

-- The segment begins at the address.
abbrev pub begins_at : ℕ → Segment → Bool
begins_at address s = s.address == address

-- A segment's end stands under its address.
abbrev pub HasEnd : (ℕ → Option ℕ) → Segment → Type 0
HasEnd end_of s = end_of s.address ≡ Some (s.address + s.size)

-- Ends stand only under addresses at which segments begin.
abbrev pub AreBegun : (ℕ → Option ℕ) → List Segment → Type 0
AreBegun end_of segments =
    (address : ℕ) → IsSome (end_of address) → list_any (begins_at address) segments ≡ true

-- Where each segment begins, with its number, from 0.
abbrev pub starts_of : List Segment → List Start
starts_of segments =
    map (λ p. record { address = p.1.address; number = p.0 }) (enumerate_from 0 segments)

-- The start is that of the segment of its number.
pub record IsStartOf (segments : List Segment) (start : Start) : Type 0 where
  pub there : start.number < length segments
  pub begins : (d : Segment) → start.address ≡ (slice_index_or segments start.number d).address

-- What the segments of every image keep.
pub record AreLawful (segments : List Segment) : Type 0 where
  pub filled : All IsFilled segments
  pub low : All EndsLow segments
  pub apart : AllPairs AreApart segments
  pub fits : total_size segments ≤ 67108864
