-- The values that a program's units read and write: registers, program counter and memory.
use Rattle.std.specs.Prelude.{ℕ, Bool, not, ◌&&◌, ◌==◌, ◌+◌, ◌*◌, ◌-◌, ◌/◌, ◌%◌, nat_le, List, length, find, slice_index, Option, None, option_map, if◌then◌else◌}
use Rattle.mips_decode.specs.declared.step.Regs.{Regs}

-- A stretch of memory: its first address, its flags (1 executable, 2 writable) and its bytes.
pub record Region : Type 0 where
  pub start : ℕ
  pub flags : ℕ
  pub bytes : List ℕ

-- The registers, the address of the next unit and the regions of memory.
pub record State : Type 0 where
  pub regs : Regs
  pub pc : ℕ
  pub regions : List Region

-- The place of return: a program has returned when its next unit would be here.
abbrev pub return_address : ℕ
return_address = 0xFFFFFFF0

-- A region can be executed where flag 1 is set, and written where flag 2 is.
abbrev pub is_executable : Region → Bool
is_executable region = region.flags % 2 == 1

abbrev pub is_writable : Region → Bool
is_writable region = region.flags / 2 % 2 == 1

-- All bytes from an address up to a size lie in the region.
abbrev pub covers : ℕ → ℕ → Region → Bool
covers address size region =
    nat_le region.start address && nat_le (address + size) (region.start + length region.bytes)

-- The big-endian word that begins at an offset of a list of bytes.
abbrev pub word_at : ℕ → List ℕ → ℕ
word_at offset bytes =
    ((slice_index bytes offset * 256 + slice_index bytes (offset + 1)) * 256
    + slice_index bytes (offset + 2)) * 256 + slice_index bytes (offset + 3)

-- The region whose executable word an address may name: it holds the four bytes, can be executed and can't be written.
abbrev pub holds_code : ℕ → Region → Bool
holds_code address region =
    covers address 4 region && is_executable region && not (is_writable region)

-- The executable word at an address: one at a multiple of 4 whose four bytes lie in one region
-- that can be executed and can't be written. There is none elsewhere.
abbrev pub code_at : List Region → ℕ → Option ℕ
code_at regions address =
    if address % 4 == 0
    then option_map (λ (region : Region). word_at (address - region.start) region.bytes)
    (find (holds_code address) regions)
    else None
