-- The limits of a profile: its numbers, and the addresses that its regions may cover.
use Rattle.std.specs.Prelude.{ℕ, ◌+◌, ◌-◌, ◌<◌, ◌≤◌}
use Rattle.mips_decode.specs.State.{return_address}

-- The most cycles of one access of memory, of one store and of one instruction.
abbrev pub most_cycles : ℕ
most_cycles = 1000000

-- The most splits that the search for a bound may make.
abbrev pub most_splits : ℕ
most_splits = 1000000

-- The most steps that a run of the machine may make.
abbrev pub most_steps : ℕ
most_steps = 100000000

-- The most bytes of the stack, and of one region: 16 MiB.
abbrev pub most_bytes : ℕ
most_bytes = 16777216

-- The fewest bytes of the stack.
abbrev pub least_stack : ℕ
least_stack = 64

-- The bytes above the stack's top that belong to the stack: the caller's area for arguments, in which
-- a callee may store the arguments that came in registers (System V ABI, MIPS processor supplement).
-- That it has 64 bytes is this analyser's own choice: the supplement names only a least size.
abbrev pub area_above : ℕ
area_above = 64

-- The end of all memory: the address at which the entry's caller goes on.
abbrev pub memory_end : ℕ
memory_end = return_address

-- The most regions of a profile.
abbrev pub most_regions : ℕ
most_regions = 16

-- The cycles of an instruction of one class: at least one.
abbrev pub IsCost : ℕ → Type 0
IsCost cycles = (1 ≤ cycles) × (cycles ≤ most_cycles)

-- The address is one of the size addresses from the start on.
abbrev pub Covers : ℕ → ℕ → ℕ → Type 0
Covers start size address = (start ≤ address) × (address < start + size)

-- No address lies in both spans; each is given by its start and its size.
abbrev pub AreApart : ℕ → ℕ → ℕ → ℕ → Type 0
AreApart start size start' size' =
    (address : ℕ) → Covers start size address → Covers start' size' address → ⊥

-- No address of the span lies in the stack, which reaches from size bytes below its top to the end
-- of the area above it.
abbrev pub IsOffStack : ℕ → ℕ → ℕ → ℕ → Type 0
IsOffStack top size = AreApart (top - size) (size + area_above)
