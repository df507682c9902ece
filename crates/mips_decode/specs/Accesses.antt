-- The accesses of memory that a unit makes, in the machine's order.
use Rattle.std.specs.Prelude.{ℕ, ◌+◌, Bool, true, false, List, [], ◌∷◌, ◌++◌, Option, Some, None, if◌then◌else◌}
use Rattle.mips_decode.specs.declared.instr.Instr.{Instr}
use Rattle.mips_decode.specs.declared.step.AccessKind.{AccessKind}
use Rattle.mips_decode.specs.declared.step.AccessKind.TheVariants.{Fetch, Slot, Load, Store}
use Rattle.mips_decode.specs.declared.step.Touched.{Touched}
use Rattle.mips_decode.specs.Step.{Done, Stepped, Went, Returned, Trapped}

-- Fetches and loads go through a chain of caches to memory. A store goes through none.
abbrev pub goes_through : AccessKind → Bool
goes_through Store = false
goes_through kind = true

-- An access: what it is for, the address of the instruction that it belongs to, and the bytes that it touches: their
-- first address, and how many they are.
pub record UnitAccess : Type 0 where
  pub kind : AccessKind
  pub at : ℕ
  pub address : ℕ
  pub size : ℕ

-- A fetch reads the word of the instruction.
abbrev pub fetch_at : AccessKind → (address : ℕ) → UnitAccess
fetch_at kind address = record { kind = kind; at = address; address = address; size = 4 }

-- The instruction of a slot stands behind the transfer.
abbrev pub slot_fetches : (address : ℕ) → List Instr → List UnitAccess
slot_fetches address [] = []
slot_fetches address (slot ∷ more) = fetch_at Slot address ∷ slot_fetches (address + 4) more

-- Each instruction of a unit is fetched: its own one first, then that of its slot.
abbrev pub fetches : (address : ℕ) → List Instr → List UnitAccess
fetches address [] = []
fetches address (instr ∷ slots) = fetch_at Fetch address ∷ slot_fetches (address + 4) slots

-- The instruction that loads or stores: a jump or branch never does, so of two instructions it is the one in the slot.
abbrev pub data_site : (address : ℕ) → List Instr → ℕ
data_site address [] = address
data_site address (instr ∷ []) = address
data_site address (instr ∷ slot ∷ more) = address + 4

-- A load or store, with all bytes that it touches: for LWL, LWR, SWL and SWR these are the whole aligned word.
abbrev pub data_access : (at : ℕ) → Option Touched → List UnitAccess
data_access at None = []
data_access at (Some touched) =
    record { kind = if touched.store then Store else Load; at = at; address = touched.address; size = touched.size } ∷ []

-- The accesses of a unit at an address by its instructions and its load or store: the fetch of its instruction, the
-- fetch of its slot's, and then the load or store (MIPS I architecture: the slot's instruction is fetched before the
-- transfer takes effect).
abbrev pub accesses_at : (address : ℕ) → List Instr → Option Touched → List UnitAccess
accesses_at address instructions access = fetches address instructions ++ data_access (data_site address instructions) access

abbrev pub accesses_of : (address : ℕ) → Done → List UnitAccess
accesses_of address done = accesses_at address done.instructions done.access

-- A unit that traps isn't done, and no access of it counts.
abbrev pub accesses_by : (address : ℕ) → Stepped → List UnitAccess
accesses_by address (Went done t) = accesses_of address done
accesses_by address (Returned done t) = accesses_of address done
accesses_by address (Trapped kind trapped) = []
