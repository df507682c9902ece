-- The units whose indirect transfers go to recorded targets.
use Rattle.std.specs.Prelude.{◌≡◌, ℕ, ◌==◌, Bool, true, false, not, List, [], ◌∷◌, Contains}
use Rattle.mips_decode.specs.declared.instr.Instr.{Instr}
use Rattle.mips_decode.specs.declared.instr.Instr.TheVariants.{JumpReg, JumpLink}
use Rattle.mips_decode.specs.Step.{Stepped, Went, Returned, Trapped}

-- JALR, and JR of another register than 31, go to one of the targets recorded for them.
-- A record at `jr $31` names nothing.
abbrev pub needs_target : Instr → Bool
needs_target (JumpReg rs) = not (rs == 31)
needs_target (JumpLink rd rs) = true
needs_target instr = false

-- An instruction goes to a recorded target where it needs one.
abbrev pub GoesToRecorded : List ℕ → Instr → ℕ → Type 0
GoesToRecorded targets instr next = needs_target instr ≡ true → Contains targets next

abbrev pub GoToRecorded : List ℕ → List Instr → ℕ → Type 0
GoToRecorded targets [] next = Unit {0}
GoToRecorded targets (instr ∷ instrs) next = GoesToRecorded targets instr next × GoToRecorded targets instrs next

abbrev pub KeepsTargets : List ℕ → Stepped → Type 0
KeepsTargets targets (Went done t) = GoToRecorded targets done.instructions t.pc
KeepsTargets targets (Returned done t) = GoToRecorded targets done.instructions t.pc
KeepsTargets targets (Trapped kind address) = Unit {0}
