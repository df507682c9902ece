-- The units of a run, one after the other: where the run stands before each of them, and what it does.
use Rattle.std.specs.Prelude.{◌≡◌, ℕ, List, [], ◌∷◌, ◌++◌, map, All, Option}
use Rattle.mips_decode.specs.Run.{last_state}
use Rattle.mips_decode.specs.State.{State}
use Rattle.mips_decode.specs.Step.{Stepped, Went, Returned, Trapped, value_step}
use Rattle.mips_decode.specs.Transfer.{Call}
use Rattle.mips_decode.specs.Calls.{ReturnsToCaller, calls_after}
use Rattle.mips_decode.specs.Records.{KeepsTargets}

-- Where a run stands: the calls that are open, the innermost first, and the address of its next unit.
pub record Stand : Type 0 where
  pub calls : List Call
  pub address : ℕ

-- A unit that a run does: where the run stands before it, and its step.
pub record RunUnit : Type 0 where
  pub at : Stand
  pub step : Stepped

-- The units that a run does, in order, with these calls open at its first state.
abbrev pub units_from : (ℕ → Option ℕ) → List Call → State → List State → List RunUnit
units_from code calls s [] = []
units_from code calls s (t ∷ later) =
    record { at = record { calls = calls; address = s.pc }; step = value_step code s }
    ∷ units_from code (calls_after calls (value_step code s)) t later

-- The units of a run from its start on, where no call is open.
abbrev pub units_of : (ℕ → Option ℕ) → State → List State → List RunUnit
units_of code s states = units_from code [] s states

-- The visits of a run: where it stands before each unit that it does. (A unit before which it merely stops isn't
-- visited, though it might trap.)
abbrev pub visits : List RunUnit → List Stand
visits units = map (λ (unit : RunUnit). unit.at) units

-- The address of the next unit after a step. A trap changes nothing.
abbrev pub next_address : ℕ → Stepped → ℕ
next_address address (Went done t) = t.pc
next_address address (Returned done t) = t.pc
next_address address (Trapped kind trapped) = address

-- Where the run stands after a unit.
abbrev pub stand_after : RunUnit → Stand
stand_after unit =
    record { calls = calls_after unit.at.calls unit.step; address = next_address unit.at.address unit.step }

-- Where the run stands after these units: where it stood before them, if there is none.
abbrev pub stand_end : Stand → List RunUnit → Stand
stand_end stand [] = stand
stand_end stand (unit ∷ units) = stand_end (stand_after unit) units

-- A run that goes on by a state has one unit more at its end: that of the state at which it stopped, with the calls
-- that were open there.
abbrev pub UnitsGrow : Type 0
UnitsGrow = (code : ℕ → Option ℕ) (calls : List Call) (s : State) (states : List State) (t : State) →
    units_from code calls s (states ++ t ∷ [])
    ≡ units_from code calls s states
    ++ record {
      at = record {
        calls = (stand_end (record { calls = calls; address = s.pc }) (units_from code calls s states)).calls;
        address = (last_state s states).pc;
      };
      step = value_step code (last_state s states);
    } ∷ []

-- Each unit goes to a target recorded at its address, where it needs one.
abbrev pub KeepTargets : (ℕ → List ℕ) → List RunUnit → Type 0
KeepTargets targets units = All (λ (unit : RunUnit). KeepsTargets (targets unit.at.address) unit.step) units

-- Each unit returns to its caller: each `jr $31` goes to where the innermost open call belongs.
abbrev pub ReturnsToCallers : List RunUnit → Type 0
ReturnsToCallers units = All (λ (unit : RunUnit). ReturnsToCaller unit.at.calls unit.step) units
