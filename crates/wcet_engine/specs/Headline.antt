-- The headline that the printed bound stands for.
use Rattle.std.specs.Prelude.{ℕ, ◌≤◌, List}
use Rattle.cache_config.specs.declared.profile.Profile.{Profile}
use Rattle.elf_mips.specs.declared.image.Image.{Image}
use Rattle.mips_decode.specs.State.{code_at}
use Rattle.mips_decode.specs.Run.{HasReturned}
use Rattle.mips_decode.specs.Units.{ReturnsToCallers, RunUnit, units_of}
use Rattle.mips_machine.specs.Machine.{Machine, IsMachineStart}
use Rattle.mips_machine.specs.Run.{IsMachineRun, last_machine, values_of}
use Rattle.net_model.specs.Runs.{KeepsRecords}

-- The units that a run of the machine does.
abbrev pub units_along : Machine → List Machine → List RunUnit
units_along m machines = units_of (code_at m.values.regions) m.values (values_of machines)

-- What the headline asks of a list of machines: it is a run of the machine, keeps the records and returns to its
-- callers, up to where it stops. Whether its entry has returned is another question.
pub record IsSpokenOf (image : Image) (entry : ℕ) (m : Machine) (machines : List Machine) : Type 0 where
  pub run : IsMachineRun m machines
  pub records : KeepsRecords image entry (units_along m machines)
  pub callers : ReturnsToCallers (units_along m machines)

-- For every start and every run from it that keeps the records and returns to its callers: where its entry has
-- returned, its cycles are at most the bound.
abbrev pub Bounds : Image → Profile → ℕ → ℕ → Type 0
Bounds image profile entry bound =
    (m : Machine) → IsMachineStart image profile entry m → (machines : List Machine) → IsSpokenOf image entry m machines →
    HasReturned m.values (values_of machines) → (last_machine m machines).cycles ≤ bound
