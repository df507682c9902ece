-- How far a run keeps the records and returns to its callers, and which unit is the first that doesn't.
use Rattle.std.specs.Prelude.{◌≡◌, ℕ, List, [], ◌∷◌, ◌++◌}
use Rattle.elf_mips.specs.declared.image.Image.{Image}
use Rattle.flow_net.specs.Visits.{KeepsBounds}
use Rattle.flow_net.specs.declared.net.Net.{Net}
use Rattle.mips_decode.specs.Accesses.{data_site}
use Rattle.mips_decode.specs.Calls.{ReturnsToCaller}
use Rattle.mips_decode.specs.Records.{KeepsTargets}
use Rattle.mips_decode.specs.declared.instr.Instr.{Instr}
use Rattle.mips_decode.specs.Step.{Stepped, Went, Returned, Trapped}
use Rattle.mips_decode.specs.Units.{ReturnsToCallers, RunUnit, visits}
use Rattle.net_model.specs.Net.{IsNet}
use Rattle.net_model.specs.Runs.{AreVisited, KeepsRecords}
use Rattle.net_model.specs.Targets.{targets_at}
use Rattle.image_run.specs.declared.report.BrokenKind.{BrokenKind}
use Rattle.image_run.specs.declared.report.BrokenKind.TheVariants as broken
use Rattle.image_run.specs.declared.report.Verdict.{Verdict}
use Rattle.image_run.specs.declared.report.Verdict.TheVariants.{Kept, Broken}
use Rattle.image_run.specs.Ranges.{KeepRanges, KeepsRange, ranges_at}

-- The units of a run keep the records, those of ranges among them, and return to their callers.
pub record KeepAll (image : Image) (entry : ℕ) (units : List RunUnit) : Type 0 where
  pub records : KeepsRecords image entry units
  pub ranges : KeepRanges (ranges_at image) units
  pub callers : ReturnsToCallers units

-- The visits of a run keep the bounds of the loops: what `KeepsRecords` says of them.
abbrev pub KeepLoops : Image → (entry : ℕ) → List RunUnit → Type 0
KeepLoops image entry units =
    (net : Net) → IsNet image entry net → (front rest : List RunUnit) → units ≡ front ++ rest →
    (places : List ℕ) → AreVisited net (visits front) places → KeepsBounds net places

-- The instructions of a unit that was done.
abbrev pub instructions_of : Stepped → List Instr
instructions_of (Went done t) = done.instructions
instructions_of (Returned done t) = done.instructions
instructions_of (Trapped kind address) = []

-- Behind units that keep all rules a unit breaks one. Its visit breaks the bound of a loop; it is the header's.
pub record BreaksLoop (image : Image) (entry : ℕ) (front : List RunUnit) (unit : RunUnit) (address : ℕ) : Type 0 where
  pub breaks : KeepLoops image entry (front ++ unit ∷ []) → ⊥
  pub place : address ≡ unit.at.address

-- Its visit breaks none, but the transfer went to a target that isn't recorded.
pub record BreaksTarget (image : Image) (entry : ℕ) (front : List RunUnit) (unit : RunUnit) (address : ℕ) : Type 0 where
  pub loops : KeepLoops image entry (front ++ unit ∷ [])
  pub breaks : KeepsTargets (targets_at image unit.at.address) unit.step → ⊥
  pub place : address ≡ unit.at.address

-- Neither of them, but its load or store leaves a range.
pub record BreaksRange (image : Image) (entry : ℕ) (front : List RunUnit) (unit : RunUnit) (address : ℕ) : Type 0 where
  pub loops : KeepLoops image entry (front ++ unit ∷ [])
  pub targets : KeepsTargets (targets_at image unit.at.address) unit.step
  pub breaks : KeepsRange (ranges_at image) unit.at.address unit.step → ⊥
  pub place : address ≡ data_site unit.at.address (instructions_of unit.step)

-- None of them, but it returns to another place than its caller's.
pub record BreaksReturn (image : Image) (entry : ℕ) (front : List RunUnit) (unit : RunUnit) (address : ℕ) : Type 0 where
  pub loops : KeepLoops image entry (front ++ unit ∷ [])
  pub targets : KeepsTargets (targets_at image unit.at.address) unit.step
  pub ranges : KeepsRange (ranges_at image) unit.at.address unit.step
  pub breaks : ReturnsToCaller unit.at.calls unit.step → ⊥
  pub place : address ≡ unit.at.address

abbrev pub Breaks : BrokenKind → Image → (entry : ℕ) → List RunUnit → RunUnit → (address : ℕ) → Type 0
Breaks broken.Loop image entry front unit address = BreaksLoop image entry front unit address
Breaks broken.Target image entry front unit address = BreaksTarget image entry front unit address
Breaks broken.Range image entry front unit address = BreaksRange image entry front unit address
Breaks broken.Return image entry front unit address = BreaksReturn image entry front unit address

-- A run breaks a rule: the units before the first one that does keep all of them.
pub record IsBroken (image : Image) (entry : ℕ) (units : List RunUnit) (kind : BrokenKind) (address : ℕ) : Type 0 where
  pub front : List RunUnit
  pub unit : RunUnit
  pub rest : List RunUnit
  pub parts : units ≡ front ++ unit ∷ rest
  pub kept : KeepAll image entry front
  pub breaks : Breaks kind image entry front unit address

-- The verdict on the units of a run.
abbrev pub IsVerdict : Image → (entry : ℕ) → List RunUnit → Verdict → Type 0
IsVerdict image entry units Kept = KeepAll image entry units
IsVerdict image entry units (Broken kind address) = IsBroken image entry units kind address
