-- Many units of a machine, one after the other.
use Rattle.std.specs.Prelude.{◌≡◌, ℕ, zero, suc, ◌^◌, ◌≤◌, ◌⊎◌}
use Rattle.mips_machine.specs.Machine.{Machine, whole_step}
use Rattle.mips_machine.specs.declared.outcome.Outcome.{Outcome}
use Rattle.mips_machine.specs.declared.outcome.Outcome.TheVariants.{Going, Returned, Trap}

-- The machine after so many units.
abbrev pub after : ℕ → Machine → Machine
after zero m = m
after (suc count) m = (whole_step (after count m)).machine

-- A unit that traps isn't done.
abbrev pub IsTrap : Outcome → Type 0
IsTrap Going = ⊥
IsTrap Returned = ⊥
IsTrap (Trap kind address) = Unit {0}

-- The last of so many units returned.
abbrev pub HasReturned : ℕ → Machine → Type 0
HasReturned zero m = ⊥
HasReturned (suc before) m = (whole_step (after before m)).outcome ≡ Returned

-- No further unit is done after so many: the machine has come to 2^61 cycles, its next unit traps, or its last one returned.
abbrev pub Ends : ℕ → Machine → Type 0
Ends count m = (2 ^ 61 ≤ (after count m).cycles) ⊎ (IsTrap (whole_step (after count m)).outcome ⊎ HasReturned count m)
