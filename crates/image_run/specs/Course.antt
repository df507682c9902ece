-- A run on its way: what it did so far, and what the code keeps of it.
use Rattle.std.specs.Prelude.{◌≡◌, ℕ, ◌+◌, ◌*◌, ◌<◌, ◌≤◌, ◌^◌, Bool, true, List, [], ◌∷◌, ◌++◌, length, All, Contains, Option, Some, IfSome, slice_get}
use Rattle.elf_mips.specs.declared.image.Image.{Image}
use Rattle.elf_mips.specs.Segments.{code_at as image_code}
use Rattle.flow_net.specs.Nested.{IsNested}
use Rattle.flow_net.specs.declared.net.Context.{Context}
use Rattle.flow_net.specs.declared.net.Net.{Net}
use Rattle.mips_decode.specs.declared.step.Touched.{Touched}
use Rattle.mips_decode.specs.declared.step.TrapKind.{TrapKind}
use Rattle.mips_decode.specs.declared.transfer.LinkKind.{LinkKind}
use Rattle.mips_decode.specs.declared.transfer.LinkKind.TheVariants as link
use Rattle.mips_decode.specs.Effect.{reg}
use Rattle.mips_decode.specs.Run.{HasReturned}
use Rattle.mips_decode.specs.State.{code_at, return_address}
use Rattle.mips_decode.specs.Units.{RunUnit, Stand, stand_end, units_of, visits}
use Rattle.mips_machine.specs.declared.outcome.Outcome.{Outcome}
use Rattle.mips_machine.specs.declared.outcome.Outcome.TheVariants.{Going, Returned, Trap}
use Rattle.mips_machine.specs.Image.{HasNoClash}
use Rattle.mips_machine.specs.Machine.{IsMachineStart, Machine, whole_step}
use Rattle.mips_machine.specs.Run.{IsMachineRun, last_machine, values_of}
use Rattle.net_model.specs.Net.{HasUnits, IsNet}
use Rattle.net_model.specs.Runs.{AreVisited, IsPlaceFor}
use Rattle.net_model.specs.Targets.{targets_at}
use Rattle.image_run.specs.declared.course.Course.{Course}
use Rattle.image_run.specs.declared.course.Program.{Program}
use Rattle.image_run.specs.declared.report.BrokenKind.TheVariants as broken
use Rattle.image_run.specs.declared.report.Verdict.{Verdict}
use Rattle.image_run.specs.declared.report.Verdict.TheVariants.{Kept, Broken}
use Rattle.image_run.specs.declared.follow.Seen.{Seen}
use Rattle.image_run.specs.declared.spots.Spot.{Spot}
use Rattle.image_run.specs.Ranges.{LiesIn, ranges_at}
use Rattle.image_run.specs.Reports.{AreGoing, first_machine}
use Rattle.image_run.specs.Road.{site_by}
use Rattle.image_run.specs.Turns.{AreTracked, IsSized}
use Rattle.image_run.specs.Verdicts.{IsBroken, IsVerdict, KeepAll}

-- What a run asks: the net of the image from the entry on, and memory without a clash.
pub record IsRunnable (program : Program) : Type 0 where
  pub is_net : IsNet program.image.now program.entry program.net.now
  pub nested : IsNested program.net.now
  pub units : HasUnits program.image.now program.net.now
  pub clash : HasNoClash program.image.now program.profile.now

abbrev pub machine_of : Program → Machine
machine_of program = first_machine program.image.now program.profile.now program.entry

-- The units that a run did, by the executable words of the image.
abbrev pub units_done : Program → List Machine → List RunUnit
units_done program machines =
    units_of (image_code program.image.now.segments) (machine_of program).values (values_of machines)

-- Where a run stands behind units.
abbrev pub stand_behind : Program → List RunUnit → Stand
stand_behind program units = stand_end (record { calls = []; address = program.entry }) units

-- A run that keeps all rules so far is followed: its next place, and what its loops may do from there on.
pub record IsFollowing (program : Program) (units : List RunUnit) (course : Course) : Type 0 where
  pub kept : KeepAll program.image.now program.entry units
  pub zero : reg course.machine.values.regs 0 ≡ 0
  pub place : IsPlaceFor program.net.now (stand_behind program units) course.place
  pub address : (stand_behind program units).address ≡ course.machine.values.pc
  pub visited : List ℕ
  pub are : AreVisited program.net.now (visits units) visited
  pub turns : AreTracked program.net.now visited course.turns
  pub sized : IsSized program.net.now course.turns

abbrev pub IsFollowed : Program → List RunUnit → Course → Verdict → Type 0
IsFollowed program units course Kept = IsFollowing program units course
IsFollowed program units course (Broken kind address) = IsBroken program.image.now program.entry units kind address

-- The most cycles of one unit.
abbrev pub most_of_unit : ℕ
most_of_unit = 2 ^ 26

-- A run on its way.
pub record IsCourse (program : Program) (course : Course) : Type 0 where
  pub start : IsMachineStart program.image.now program.profile.now program.entry (machine_of program)
  pub tallies : length course.machine.caches.tallies ≡ length course.machine.caches.held
  pub machines : List Machine
  pub going : AreGoing (machine_of program) machines
  pub last : last_machine (machine_of program) machines ≡ course.machine
  pub steps : length machines ≡ course.steps
  pub cycles : course.machine.cycles ≤ course.steps * most_of_unit
  pub code : code_at course.machine.values.regions ≡ image_code program.image.now.segments
  pub verdict : IsFollowed program (units_done program machines) course course.verdict

-- A run whose entry has returned.
pub record IsReturned (program : Program) (course : Course) : Type 0 where
  pub start : IsMachineStart program.image.now program.profile.now program.entry (machine_of program)
  pub tallies : length course.machine.caches.tallies ≡ length course.machine.caches.held
  pub machines : List Machine
  pub run : IsMachineRun (machine_of program) machines
  pub last : last_machine (machine_of program) machines ≡ course.machine
  pub steps : length machines ≡ course.steps
  pub returned : HasReturned (machine_of program).values (values_of machines)
  pub verdict : IsVerdict program.image.now program.entry (units_done program machines) course.verdict

-- A run whose next unit traps.
pub record IsTrapped (program : Program) (kind : TrapKind) (address : ℕ) (course : Course) : Type 0 where
  pub start : IsMachineStart program.image.now program.profile.now program.entry (machine_of program)
  pub tallies : length course.machine.caches.tallies ≡ length course.machine.caches.held
  pub machines : List Machine
  pub going : AreGoing (machine_of program) machines
  pub last : last_machine (machine_of program) machines ≡ course.machine
  pub steps : length machines ≡ course.steps
  pub trap : (whole_step course.machine).outcome ≡ Trap kind address
  pub verdict : IsVerdict program.image.now program.entry (units_done program (machines ++ course.machine ∷ [])) course.verdict

-- What a unit leaves, by what it told.
abbrev pub Goes : Program → Outcome → Course → Type 0
Goes program Going course = IsCourse program course
Goes program Returned course = IsReturned program course
Goes program (Trap kind address) course = IsTrapped program kind address course

-- A unit that trapped isn't counted.
abbrev pub counted : Outcome → ℕ → ℕ
counted Going steps = steps + 1
counted Returned steps = steps + 1
counted (Trap kind address) steps = steps

-- ---- The rules of one unit that was done, by what the code sees of it: its unit, its call or return, and where it
-- went.
abbrev pub GoesRecorded : Image → (address : ℕ) → (indirect : Bool) → (next : ℕ) → Type 0
GoesRecorded image address indirect next = indirect ≡ true → Contains (targets_at image address) next

abbrev pub StaysInRanges : Image → (site : ℕ) → Option Touched → Type 0
StaysInRanges image site access = IfSome access (λ (touched : Touched). All (LiesIn touched) (ranges_at image site))

-- Where a return from this context belongs.
pub record IsBackFrom (contexts : List Context) (context next : ℕ) : Type 0 where
  pub out : context ≡ 0 → next ≡ return_address
  pub behind : 0 < context → (made : Context) → slice_get contexts context ≡ Some made → next ≡ made.site + 8

abbrev pub GoesBackFrom : List Context → (context : ℕ) → LinkKind → (next : ℕ) → Type 0
GoesBackFrom contexts context link.Plain next = Unit {0}
GoesBackFrom contexts context link.Call next = Unit {0}
GoesBackFrom contexts context link.Return next = IsBackFrom contexts context next

pub record KeepsRules (image : Image) (net : Net) (spot : Spot) (seen : Seen) : Type 0 where
  pub target : GoesRecorded image seen.address spot.indirect seen.next
  pub range : StaysInRanges image (site_by spot.slot seen.address) seen.access
  pub back : GoesBackFrom net.contexts seen.context seen.link seen.next

pub record MissesTarget (image : Image) (spot : Spot) (seen : Seen) (address : ℕ) : Type 0 where
  pub target : GoesRecorded image seen.address spot.indirect seen.next → ⊥
  pub place : address ≡ seen.address

pub record LeavesRange (image : Image) (spot : Spot) (seen : Seen) (address : ℕ) : Type 0 where
  pub target : GoesRecorded image seen.address spot.indirect seen.next
  pub range : StaysInRanges image (site_by spot.slot seen.address) seen.access → ⊥
  pub place : address ≡ site_by spot.slot seen.address

pub record ReturnsAside (image : Image) (net : Net) (spot : Spot) (seen : Seen) (address : ℕ) : Type 0 where
  pub target : GoesRecorded image seen.address spot.indirect seen.next
  pub range : StaysInRanges image (site_by spot.slot seen.address) seen.access
  pub back : GoesBackFrom net.contexts seen.context seen.link seen.next → ⊥
  pub place : address ≡ seen.address

abbrev pub IsJudged : Image → Net → Spot → Seen → Verdict → Type 0
IsJudged image net spot seen Kept = KeepsRules image net spot seen
IsJudged image net spot seen (Broken broken.Loop address) = ⊥
IsJudged image net spot seen (Broken broken.Target address) = MissesTarget image spot seen address
IsJudged image net spot seen (Broken broken.Range address) = LeavesRange image spot seen address
IsJudged image net spot seen (Broken broken.Return address) = ReturnsAside image net spot seen address
