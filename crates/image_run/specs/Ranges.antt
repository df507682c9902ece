-- Records of ranges, and the loads and stores that keep them.
use Rattle.std.specs.Prelude.{◌≡◌, ℕ, ◌==◌, ◌+◌, ◌<◌, ◌≤◌, ◌^◌, ◌↔◌, ◌&&◌, nat_le, Bool, List, All, Contains, IfSome, filter}
use Rattle.std.specs.List.Sorted.{IsNonDecreasingBy}
use Rattle.elf_mips.specs.declared.image.Image.{Image}
use Rattle.elf_mips.specs.declared.mark.Mark.{Mark}
use Rattle.mips_decode.specs.Accesses.{data_site}
use Rattle.mips_decode.specs.declared.step.Touched.{Touched}
use Rattle.mips_decode.specs.Step.{Done, Stepped, Went, Returned, Trapped}
use Rattle.mips_decode.specs.Units.{RunUnit}
use Rattle.image_run.specs.declared.ranges.Limits.{Limits}

-- A record of kind 3 says that the load or store at its address touches bytes from x on and before y alone.
abbrev pub names_range : ℕ → Mark → Bool
names_range address mark = mark.kind == 3 && mark.address == address

-- The records of ranges for the instruction at an address.
abbrev pub ranges_at : Image → ℕ → List Mark
ranges_at image address = filter (names_range address) image.marks

-- All bytes that a load or store touches lie in the range of a record. (That of LWL, LWR, SWL and SWR touches the whole
-- aligned word.)
abbrev pub LiesIn : Touched → Mark → Type 0
LiesIn access mark = (mark.x ≤ access.address) × (access.address + access.size ≤ mark.y)

-- The load or store of a unit lies in all ranges recorded for its instruction.
abbrev pub StaysWithin : (ℕ → List Mark) → (address : ℕ) → Done → Type 0
StaysWithin ranges address done =
    IfSome done.access (λ (access : Touched). All (LiesIn access) (ranges (data_site address done.instructions)))

-- So does that of a unit that was done; one that trapped touched nothing.
abbrev pub KeepsRange : (ℕ → List Mark) → (address : ℕ) → Stepped → Type 0
KeepsRange ranges address (Went done t) = StaysWithin ranges address done
KeepsRange ranges address (Returned done t) = StaysWithin ranges address done
KeepsRange ranges address (Trapped kind trapped) = Unit {0}

-- The loads and stores of a run keep the ranges recorded for them.
abbrev pub KeepRanges : (ℕ → List Mark) → List RunUnit → Type 0
KeepRanges ranges units = All (λ (unit : RunUnit). KeepsRange ranges unit.at.address unit.step) units

-- ---- How the code keeps the ranges: the image's records of kind 3, by rising addresses.
pub record AreRanges (image : Image) (ranges : List Mark) : Type 0 where
  pub rising : IsNonDecreasingBy (λ (mark : Mark). mark.address) ranges
  pub sound : All (λ (mark : Mark). Contains image.marks mark × (mark.kind ≡ 3)) ranges
  pub whole : All (λ (mark : Mark). mark.kind ≡ 3 → Contains ranges mark) image.marks

-- The load or store lies within the limits.
abbrev pub within : Limits → Touched → Bool
within limits access = nat_le limits.from access.address && nat_le (access.address + access.size) limits.to

-- The limits hold just what lies in all of these ranges.
abbrev pub IsCut : List Mark → Limits → Type 0
IsCut marks limits =
    (access : Touched) → access.address + access.size < 2 ^ 64 →
    ((limits.from ≤ access.address) × (access.address + access.size ≤ limits.to)) ↔ All (LiesIn access) marks

abbrev pub IsLimits : Image → (address : ℕ) → Limits → Type 0
IsLimits image address limits = IsCut (ranges_at image address) limits
