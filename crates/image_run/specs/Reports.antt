-- What is told of the run of an image from zero registers, the file's bytes, zeros elsewhere and empty caches.
use Rattle.std.specs.Prelude.{◌≡◌, ℕ, ◌≤◌, ◌<◌, List, [], ◌∷◌, ◌++◌, length, map, replicate}
use Rattle.cache_config.specs.declared.profile.Profile.{Profile}
use Rattle.elf_mips.specs.declared.image.Image.{Image}
use Rattle.lru_concrete.specs.Chains.{Hierarchy, empty_of}
use Rattle.mips_decode.specs.declared.step.Regs.{Regs}
use Rattle.mips_decode.specs.State.{code_at}
use Rattle.mips_decode.specs.Run.{HasReturned}
use Rattle.mips_decode.specs.Units.{ReturnsToCallers, RunUnit, units_of}
use Rattle.mips_machine.specs.declared.outcome.Outcome.TheVariants.{Going, Trap}
use Rattle.mips_machine.specs.Machine.{IsMachineStart, Machine, machine_at_start, whole_step}
use Rattle.mips_machine.specs.Run.{IsMachineRun, last_machine, values_of}
use Rattle.net_model.specs.Runs.{KeepsRecords}
use Rattle.image_run.specs.declared.report.RunReport.{RunReport}
use Rattle.image_run.specs.declared.report.Stop.{Stop}
use Rattle.image_run.specs.declared.report.Stop.TheVariants as stop
use Rattle.image_run.specs.declared.report.Verdict.TheVariants.{Kept}
use Rattle.image_run.specs.Verdicts.{IsVerdict, KeepAll}

-- Registers that are all zero.
abbrev pub zero_registers : Regs
zero_registers = record { general = replicate 32 0; hi = 0; lo = 0 }

-- The profile's caches, which hold no blocks.
abbrev pub empty_caches : Profile → Hierarchy
empty_caches profile = record { caches = map empty_of profile.levels; memory = profile.memory }

-- The machine at the start. (A start sets registers 0, 28, 29 and 31.)
abbrev pub first_machine : Image → Profile → (entry : ℕ) → Machine
first_machine image profile entry = machine_at_start image profile entry zero_registers [] (empty_caches profile)

-- Each of these units was done, and the run goes on: none trapped or returned from the entry.
abbrev pub AreGoing : Machine → List Machine → Type 0
AreGoing m [] = Unit {0}
AreGoing m (n ∷ later) = (whole_step m ≡ record { outcome = Going; machine = n }) × AreGoing n later

-- The units that a run did.
abbrev pub units_along : Machine → List Machine → List RunUnit
units_along m machines = units_of (code_at m.values.regions) m.values (values_of machines)

-- The units that a run visited: those that it did, and the one in which it trapped. (A trap changes nothing, so that
-- the machine stays behind that unit.)
abbrev pub units_visited : Stop → Machine → List Machine → List RunUnit
units_visited (stop.Trap kind address) m machines = units_along m (machines ++ last_machine m machines ∷ [])
units_visited stop.Returned m machines = units_along m machines
units_visited stop.Steps m machines = units_along m machines

-- How a run of at most so many units came to its end: its entry returned, or all units went on and the next one traps,
-- or as many as may be done went on.
abbrev pub IsStop : (most : ℕ) → Machine → List Machine → Stop → Type 0
IsStop most m machines stop.Returned = HasReturned m.values (values_of machines) × (length machines ≤ most)
IsStop most m machines (stop.Trap kind address) =
    AreGoing m machines × ((whole_step (last_machine m machines)).outcome ≡ Trap kind address) × (length machines < most)
IsStop most m machines stop.Steps = AreGoing m machines × (length machines ≡ most)

-- The report of the run of an image.
pub record IsReport (image : Image) (profile : Profile) (entry : ℕ) (report : RunReport) : Type 0 where
  -- The machines behind its units, and the last one.
  pub machines : List Machine
  pub run : IsMachineRun (first_machine image profile entry) machines
  pub stop : IsStop profile.steps (first_machine image profile entry) machines report.stop
  pub steps : report.steps ≡ length machines
  pub cycles : report.cycles ≡ (last_machine (first_machine image profile entry) machines).cycles
  pub caches : report.caches ≡ (last_machine (first_machine image profile entry) machines).caches.tallies
  -- Whether the units that it visited keep the records and return to their callers.
  pub verdict : IsVerdict image entry (units_visited report.stop (first_machine image profile entry) machines) report.verdict
  pub kept : KeepAll image entry (units_visited report.stop (first_machine image profile entry) machines) → report.verdict ≡ Kept

-- The run that a report tells of is one that the headline speaks of: a run of the machine from a start, which keeps the
-- records and returns to its callers, and whose entry has returned.
pub record IsHeadlineRun (image : Image) (profile : Profile) (entry : ℕ) (report : RunReport) : Type 0 where
  pub m : Machine
  pub machines : List Machine
  pub start : IsMachineStart image profile entry m
  pub run : IsMachineRun m machines
  pub records : KeepsRecords image entry (units_along m machines)
  pub callers : ReturnsToCallers (units_along m machines)
  pub returned : HasReturned m.values (values_of machines)
  pub cycles : report.cycles ≡ (last_machine m machines).cycles
