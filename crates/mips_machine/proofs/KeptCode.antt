-- No unit changes the executable words.
use Rattle.std.proofs.Common.{◌≡◌, ℕ, ◌+◌, ◌==◌, Bool, true, false, cond, List, Option, Some, None, is_some, sym, ap, ◌∙◌}
use Rattle.mips_decode.specs.declared.instr.Instr.{Instr}
use Rattle.mips_decode.specs.declared.step.TrapKind.TheVariants.{Unknown}
use Rattle.mips_decode.specs.State.{State, code_at, return_address}
use Rattle.mips_decode.specs.Effect.{Effect, Does, Traps, effect}
use Rattle.mips_decode.specs.Transfer.{Decided, decided}
use Rattle.mips_decode.specs.Step.{Done, Stepped, Went, Returned, Trapped, Fetched, Found, Missing, fetched, plain_done, slot_done, slot_fetched, unit_of, unit_fetched, value_step}
use Rattle.mips_decode.specs.Run.{Joins}
use Rattle.mips_decode.proofs.Stores.{KeepsCode, effect-keeps}

-- The executable words of two states are the same.
abbrev pub SameCode : State → State → Type 0
SameCode s t = (address : ℕ) → code_at t.regions address ≡ code_at s.regions address

-- The state that a step joins has the same executable words.
ended_by-code : (b : Bool) (s t : State) (done : Done) (next : State) (later : List State) → SameCode s t →
    Joins (cond b (Returned done t) (Went done t)) next later → SameCode s next
ended_by-code true s t done next later same joins = λ address. ap (λ (u : State). code_at u.regions address) (sym joins.0) ∙ same address
ended_by-code false s t done next later same joins = λ address. ap (λ (u : State). code_at u.regions address) (sym joins) ∙ same address

plain_done-code : (s : State) (instr : Instr) (e : Effect) (next : State) (later : List State) → KeepsCode s e →
    Joins (plain_done s instr e) next later → SameCode s next
plain_done-code s instr (Traps kind) next later kept joins = absurd joins
plain_done-code s instr (Does access t) next later kept joins =
    ended_by-code (s.pc + 4 == return_address) s (record t { pc = s.pc + 4 }) _ next later kept joins

slot_done-code : (s : State) (instr : Instr) (way : Decided) (slot : Instr) (e : Effect) (next : State) (later : List State) →
    KeepsCode s e → Joins (slot_done s instr way slot e) next later → SameCode s next
slot_done-code s instr way slot (Traps kind) next later kept joins = absurd joins
slot_done-code s instr way slot (Does access t) next later kept joins =
    ended_by-code (way.next == return_address) s (record t { pc = way.next }) _ next later kept joins

slot_by-code : (b : Bool) (trapped : Stepped) (s : State) (instr : Instr) (way : Decided) (slot : Instr) (e : Effect) (next : State) (later : List State) →
    (Joins trapped next later → ⊥) → KeepsCode s e → Joins (cond b trapped (slot_done s instr way slot e)) next later → SameCode s next
slot_by-code true trapped s instr way slot e next later no_way kept joins = absurd (no_way joins)
slot_by-code false trapped s instr way slot e next later no_way kept joins = slot_done-code s instr way slot e next later kept joins

slot_fetched-code : (s : State) (instr : Instr) (way : Decided) (slot : Fetched) (next : State) (later : List State) →
    Joins (slot_fetched s instr way slot) next later → SameCode s next
slot_fetched-code s instr way (Missing kind) next later joins = absurd joins
slot_fetched-code s instr way (Found slot) next later joins =
    slot_by-code (is_some (decided slot (s.pc + 4) s.regs)) (Trapped Unknown (s.pc + 4)) s instr way slot
    (effect slot (record s { regs = way.regs })) next later (λ h. h)
    (effect-keeps slot (record s { regs = way.regs })) joins

unit_of-code : (code : ℕ → Option ℕ) (s : State) (instr : Instr) (way : Option Decided) (next : State) (later : List State) →
    Joins (unit_of code s instr way) next later → SameCode s next
unit_of-code code s instr None next later joins =
    plain_done-code s instr (effect instr s) next later (effect-keeps instr s) joins
unit_of-code code s instr (Some way) next later joins =
    slot_fetched-code s instr way (fetched code (s.pc + 4)) next later joins

unit_fetched-code : (code : ℕ → Option ℕ) (s : State) (unit : Fetched) (next : State) (later : List State) →
    Joins (unit_fetched code s unit) next later → SameCode s next
unit_fetched-code code s (Missing kind) next later joins = absurd joins
unit_fetched-code code s (Found instr) next later joins =
    unit_of-code code s instr (decided instr s.pc s.regs) next later joins

-- A unit leaves all executable words as they were.
pub value_step-code : (code : ℕ → Option ℕ) (s next : State) (later : List State) →
    Joins (value_step code s) next later → SameCode s next
value_step-code code s next later joins = unit_fetched-code code s (fetched code s.pc) next later joins
