-- The step of one unit over plain values: a plain instruction, or a transfer together with its delay slot.
use Rattle.std.specs.Prelude.{ℕ, ◌+◌, ◌==◌, List, [], ◌∷◌, Option, Some, None, is_some, if◌then◌else◌}
use Rattle.mips_decode.specs.declared.instr.Instr.{Instr}
use Rattle.mips_decode.specs.declared.step.TrapKind.{TrapKind}
use Rattle.mips_decode.specs.declared.step.TrapKind.TheVariants.{Fetch, Unknown}
use Rattle.mips_decode.specs.declared.step.Touched.{Touched}
use Rattle.mips_decode.specs.State.{State, return_address}
use Rattle.mips_decode.specs.Decoded.{decoded}
use Rattle.mips_decode.specs.Effect.{Effect, Does, Traps, effect}
use Rattle.mips_decode.specs.Transfer.{Linking, Straight, Decided, decided}

-- What a unit did: its instructions in order, its load or store, and its call or return.
pub record Done : Type 0 where
  pub instructions : List Instr
  pub access : Option Touched
  pub link : Linking

-- A unit goes on, returns from the entry, or traps at an address. A unit that traps changes nothing.
pub data Stepped : Type 0 where
  Went : (done : Done) (state : State) → Stepped
  Returned : (done : Done) (state : State) → Stepped
  Trapped : (kind : TrapKind) (address : ℕ) → Stepped

-- The instruction at an address, or the trap of the fetch: the address must hold an executable word,
-- and the word must be in the instruction table.
pub data Fetched : Type 0 where
  Found : (instr : Instr) → Fetched
  Missing : (kind : TrapKind) → Fetched

abbrev pub in_table : Option Instr → Fetched
in_table None = Missing Unknown
in_table (Some instr) = Found instr

abbrev pub fetched_word : Option ℕ → Fetched
fetched_word None = Missing Fetch
fetched_word (Some word) = in_table (decoded word)

abbrev pub fetched : (ℕ → Option ℕ) → ℕ → Fetched
fetched code address = fetched_word (code address)

-- The entry has returned when the next unit would be at the place of return.
abbrev pub ended : Done → State → Stepped
ended done s = if s.pc == return_address then Returned done s else Went done s

-- A plain instruction at its address: the next unit is at the address + 4.
abbrev pub plain_done : State → Instr → Effect → Stepped
plain_done s instr (Traps kind) = Trapped kind s.pc
plain_done s instr (Does access t) =
    ended (record { instructions = instr ∷ []; access = access; link = Straight }) (record t { pc = s.pc + 4 })

-- A transfer has read its registers, decided where it goes and written its link; then its slot's effect takes place.
abbrev pub slot_done : State → Instr → Decided → Instr → Effect → Stepped
slot_done s instr way slot (Traps kind) = Trapped kind (s.pc + 4)
slot_done s instr way slot (Does access t) =
    ended (record { instructions = instr ∷ slot ∷ []; access = access; link = way.link })
    (record t { pc = way.next })

-- A transfer in a slot is unknown there.
abbrev pub slot_fetched : State → Instr → Decided → Fetched → Stepped
slot_fetched s instr way (Missing kind) = Trapped kind (s.pc + 4)
slot_fetched s instr way (Found slot) =
    if is_some (decided slot (s.pc + 4) s.regs)
    then Trapped Unknown (s.pc + 4)
    else slot_done s instr way slot (effect slot (record s { regs = way.regs }))

abbrev pub unit_of : (ℕ → Option ℕ) → State → Instr → Option Decided → Stepped
unit_of code s instr None = plain_done s instr (effect instr s)
unit_of code s instr (Some way) = slot_fetched s instr way (fetched code (s.pc + 4))

abbrev pub unit_fetched : (ℕ → Option ℕ) → State → Fetched → Stepped
unit_fetched code s (Missing kind) = Trapped kind s.pc
unit_fetched code s (Found instr) = unit_of code s instr (decided instr s.pc s.regs)

-- The unit at the program counter, whose words are the executable words of `code`.
abbrev pub value_step : (ℕ → Option ℕ) → State → Stepped
value_step code s = unit_fetched code s (fetched code s.pc)
