-- What it means that an instruction reads and writes certain places: the registers, HI and LO.
use Rattle.std.specs.Prelude.{◌≡◌, ◌⊎◌, ℕ, ◌==◌, length, Option, Some, None, IfSome, if◌then◌else◌}
use Rattle.std.specs.Int.{bit_at}
use Rattle.mips_decode.specs.declared.instr.Instr.{Instr}
use Rattle.mips_decode.specs.declared.step.Regs.{Regs}
use Rattle.mips_decode.specs.Columns.{hi, lo}
use Rattle.mips_decode.specs.Effect.{Effect, Does, Traps, effect, reg}
use Rattle.mips_decode.specs.State.{State}
use Rattle.mips_decode.specs.Transfer.{Decided, decided}

-- A set of places has a place: bit n is register n, bit 32 is HI, bit 33 is LO.
abbrev pub Has : (places place : ℕ) → Type 0
Has places place = bit_at places place ≡ 1

-- What a place holds.
abbrev pub held_in : Regs → (place : ℕ) → ℕ
held_in regs place = if place == hi then regs.hi else if place == lo then regs.lo else reg regs place

-- Every place that isn't in the set holds afterwards what it held before.
abbrev pub KeepsOthers : (places : ℕ) → (before after : Regs) → Type 0
KeepsOthers places before after = (place : ℕ) → ¬ Has places place → held_in after place ≡ held_in before place

abbrev pub EffectKeepsOthers : (places : ℕ) → Regs → Effect → Type 0
EffectKeepsOthers places before (Traps kind) = Unit {0}
EffectKeepsOthers places before (Does access after) = KeepsOthers places before after.regs

-- An instruction writes no other places than those of the set: neither by its effect, at any state, nor, if it is a jump
-- or branch, by its link, at any address.
pub record WritesOnly (places : ℕ) (instr : Instr) : Type 0 where
  pub results : (s : State) → EffectKeepsOthers places s.regs (effect instr s)
  pub links : (pc : ℕ) (regs : Regs) → IfSome (decided instr pc regs) (λ way. KeepsOthers places regs way.regs)

-- Two sets of 32 registers, with HI and LO, agree on the places of a set.
pub record Agree (places : ℕ) (one other : Regs) : Type 0 where
  pub count : length one.general ≡ 32
  pub other_count : length other.general ≡ 32
  pub same : (place : ℕ) → Has places place → held_in one place ≡ held_in other place

-- Registers change alike: afterwards each place holds the same in both, or in both what it held there before.
abbrev pub ChangeAlike : (one other one_after other_after : Regs) → Type 0
ChangeAlike one other one_after other_after = (place : ℕ) →
    (held_in one_after place ≡ held_in other_after place)
    ⊎ ((held_in one_after place ≡ held_in one place) × (held_in other_after place ≡ held_in other place))

-- Effects on two such registers are alike: both trap for the same cause, or both make the same access, leave the same
-- memory (so that a store stored the same) and change their registers alike (so that a load loaded the same).
abbrev pub EffectsAlike : (one other : Regs) → Effect → Effect → Type 0
EffectsAlike one other (Traps kind) (Traps other_kind) = kind ≡ other_kind
EffectsAlike one other (Traps kind) (Does other_access other_after) = ⊥
EffectsAlike one other (Does access after) (Traps other_kind) = ⊥
EffectsAlike one other (Does access after) (Does other_access other_after) =
    (access ≡ other_access) × (after.pc ≡ other_after.pc) × (after.regions ≡ other_after.regions)
    × ChangeAlike one other after.regs other_after.regs

-- Both go to the same address, as the same call or return or as neither, and change their registers alike.
abbrev pub WaysAlike : (one other : Regs) → Option Decided → Option Decided → Type 0
WaysAlike one other None None = Unit {0}
WaysAlike one other None (Some other_way) = ⊥
WaysAlike one other (Some way) None = ⊥
WaysAlike one other (Some way) (Some other_way) =
    (way.next ≡ other_way.next) × (way.link ≡ other_way.link) × ChangeAlike one other way.regs other_way.regs

-- An instruction reads no other places than those of the set: where registers agree on these, in states that are the
-- same but for the registers, its effects are alike, and so are its ways, if it is a jump or branch.
pub record ReadsOnly (places : ℕ) (instr : Instr) : Type 0 where
  pub results : (s : State) (other : Regs) → Agree places s.regs other →
      EffectsAlike s.regs other (effect instr s) (effect instr (record s { regs = other }))
  pub ways : (pc : ℕ) (one other : Regs) → Agree places one other →
      WaysAlike one other (decided instr pc one) (decided instr pc other)
