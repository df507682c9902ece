-- The numbers that loads and stores move between registers and bytes. Words are big-endian: the
-- byte at the lowest address is the highest one.
use Rattle.std.specs.Prelude.{◌≡◌, ◌⊎◌, ℕ, ◌+◌, ◌-◌, ◌*◌, ◌/◌, ◌%◌, ◌^◌, ◌==◌, nat_lt, List, slice_index, slice_set, true, false, if◌then◌else◌}
use Rattle.mips_decode.specs.declared.instr.LoadOp.{LoadOp}
use Rattle.mips_decode.specs.declared.instr.LoadOp.TheVariants.{Lb, Lh, Lwl, Lw, Lbu, Lhu, Lwr}
use Rattle.mips_decode.specs.declared.instr.StoreOp.{StoreOp}
use Rattle.mips_decode.specs.declared.instr.StoreOp.TheVariants.{Sb, Sh, Swl, Sw, Swr}
use Rattle.mips_decode.specs.declared.step.Touched.{Touched}
use Rattle.mips_decode.specs.Arithmetic.{sign_extended}

-- An access has one, two or four bytes.
abbrev pub IsSize : ℕ → Type 0
IsSize size = (size ≡ 1) ⊎ (size ≡ 2) ⊎ (size ≡ 4)

-- The number in the bytes from an offset on: of one, two or four bytes.
abbrev pub number_at : (size offset : ℕ) → List ℕ → ℕ
number_at size offset bytes =
    if size == 1 then slice_index bytes offset
    else if size == 2 then slice_index bytes offset * 256 + slice_index bytes (offset + 1)
    else ((slice_index bytes offset * 256 + slice_index bytes (offset + 1)) * 256
    + slice_index bytes (offset + 2)) * 256 + slice_index bytes (offset + 3)

-- The bytes with a number of one, two or four bytes put in from an offset on.
abbrev pub with_half : ℕ → ℕ → List ℕ → List ℕ
with_half number offset bytes =
    slice_set (slice_set bytes offset (number / 256 % 256)) (offset + 1) (number % 256)

abbrev pub with_number : (number size offset : ℕ) → List ℕ → List ℕ
with_number number size offset bytes =
    if size == 1 then slice_set bytes offset (number % 256)
    else if size == 2 then with_half number offset bytes
    else with_half number (offset + 2) (with_half (number / 2 ^ 16) offset bytes)

-- The load or store at an address: its size, and for LWL, LWR, SWL and SWR the whole aligned
-- word that holds the address.
abbrev pub load_touched : LoadOp → ℕ → Touched
load_touched Lb address = record { address = address; size = 1; store = false }
load_touched Lbu address = record { address = address; size = 1; store = false }
load_touched Lh address = record { address = address; size = 2; store = false }
load_touched Lhu address = record { address = address; size = 2; store = false }
load_touched Lw address = record { address = address; size = 4; store = false }
load_touched Lwl address = record { address = address - address % 4; size = 4; store = false }
load_touched Lwr address = record { address = address - address % 4; size = 4; store = false }

abbrev pub store_touched : StoreOp → ℕ → Touched
store_touched Sb address = record { address = address; size = 1; store = true }
store_touched Sh address = record { address = address; size = 2; store = true }
store_touched Sw address = record { address = address; size = 4; store = true }
store_touched Swl address = record { address = address - address % 4; size = 4; store = true }
store_touched Swr address = record { address = address - address % 4; size = 4; store = true }

-- Eight bits with their highest one repeated above them.
abbrev pub byte_extended : ℕ → ℕ
byte_extended byte = if nat_lt byte (2 ^ 7) then byte else byte + (2 ^ 32 - 2 ^ 8)

-- The register after a load of a number from memory, by the place of the address in its word
-- (0 is the highest byte) and the register before.
-- LWL puts the bytes from its place on at the top of the register and keeps the bytes below.
-- LWR puts the bytes up to its place at the bottom and keeps the bytes above.
abbrev pub load_value : LoadOp → (place old number : ℕ) → ℕ
load_value Lb place old number = byte_extended (number % 2 ^ 8)
load_value Lbu place old number = number
load_value Lh place old number = sign_extended (number % 2 ^ 16)
load_value Lhu place old number = number
load_value Lw place old number = number
load_value Lwl place old number = number * 2 ^ (8 * place) % 2 ^ 32 + old % 2 ^ (8 * place)
load_value Lwr place old number =
    old / 2 ^ (8 * (place + 1)) * 2 ^ (8 * (place + 1)) + number / 2 ^ (8 * (3 - place))

-- The number in memory after a store of a register, by the place of the address in its word and
-- the number before.
-- SWL puts the top bytes of the register at its place and the places behind it.
-- SWR puts the bottom bytes of the register at its place and the places before it.
abbrev pub store_value : StoreOp → (place old number : ℕ) → ℕ
store_value Sb place old number = number % 2 ^ 8
store_value Sh place old number = number % 2 ^ 16
store_value Sw place old number = number
store_value Swl place old number =
    old / 2 ^ (8 * (4 - place)) * 2 ^ (8 * (4 - place)) + number / 2 ^ (8 * place)
store_value Swr place old number =
    number * 2 ^ (8 * (3 - place)) % 2 ^ 32 + old % 2 ^ (8 * (3 - place))
