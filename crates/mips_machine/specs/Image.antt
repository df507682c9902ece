-- What a start takes of an image, a profile and the given registers.
use Rattle.std.specs.Prelude.{◌≡◌, ℕ, ◌+◌, ◌-◌, ◌<◌, Bool, ◌&&◌, List, [], ◌∷◌, ◌++◌, length, map, fold, replicate, take, drop, Option, Some, None, All, true, slice_set, if◌then◌else◌}
use Rattle.std.specs.List.{list_any}
use Rattle.cache_config.specs.declared.profile.Profile.{Profile}
use Rattle.cache_config.specs.declared.profile.Region.{Region as Area}
use Rattle.cache_config.specs.Limits.{AreApart as AreSpansApart, area_above}
use Rattle.elf_mips.specs.declared.image.Image.{Image}
use Rattle.elf_mips.specs.declared.segment.Segment.{Segment}
use Rattle.mips_decode.specs.State.{Region, covers, is_writable, return_address}
use Rattle.mips_decode.specs.Start.{Setting}
use Rattle.mips_decode.specs.declared.step.Regs.{Regs}
use Rattle.mips_machine.specs.declared.fill.Fill.{Fill}

-- The region of a loaded segment.
abbrev pub region_of : Segment → Region
region_of segment = record { start = segment.address; flags = segment.flags; bytes = segment.bytes }

-- A region of zeros that can be written.
abbrev pub zeros_at : (start size : ℕ) → Region
zeros_at start size = record { start = start; flags = 2; bytes = replicate size 0 }

-- The stack lies below its top, with the caller's area for arguments above it.
abbrev pub stack_of : Profile → Region
stack_of profile = zeros_at (profile.stack_top - profile.stack_size) (profile.stack_size + area_above)

abbrev pub area_of : Area → Region
area_of area = zeros_at area.start area.size

-- The regions of memory: the loaded segments, the stack, and the profile's regions.
abbrev pub regions_of : Image → Profile → List Region
regions_of image profile =
    map region_of image.segments ++ (stack_of profile ∷ map area_of profile.regions)

-- The entry, and what the profile says of registers 28 and 29.
abbrev pub setting_of : Profile → ℕ → Setting
setting_of profile entry =
    record { entry = entry; stack_top = profile.stack_top; global_pointer = profile.gp }

-- The registers of a start: 0 is zero, 29 the stack's top, 31 the place of return, and 28 the global
-- pointer where there is one. All others stay as they are given.
abbrev pub with_pointer : Option ℕ → List ℕ → List ℕ
with_pointer None general = general
with_pointer (Some pointer) general = slice_set general 28 pointer

abbrev pub general_at_start : Option ℕ → ℕ → List ℕ → List ℕ
general_at_start pointer top general =
    with_pointer pointer (slice_set (slice_set (slice_set general 0 0) 29 top) 31 return_address)

abbrev pub registers_at_start : Profile → Regs → Regs
registers_at_start profile regs =
    record regs { general = general_at_start profile.gp profile.stack_top regs.general }

-- A segment holds bytes.
abbrev pub HasBytes : Segment → Type 0
HasBytes segment = All (λ byte. byte < 256) segment.bytes

-- Bytes put over others from an offset on.
abbrev pub spliced : ℕ → List ℕ → List ℕ → List ℕ
spliced at new bytes = take at bytes ++ new ++ drop (at + length new) bytes

abbrev pub filled_region : Fill → Region → Region
filled_region fill region =
    record region { bytes = spliced (fill.address - region.start) fill.bytes region.bytes }

-- The region can be written, and all bytes of the fill lie in it.
abbrev pub takes_fill : Fill → Region → Bool
takes_fill fill region = is_writable region && covers fill.address (length fill.bytes) region

-- A fill puts its bytes into the region that takes it; where none does, it changes nothing.
abbrev pub with_fill : Fill → List Region → List Region
with_fill fill [] = []
with_fill fill (region ∷ regions) =
    if takes_fill fill region
    then filled_region fill region ∷ regions
    else region ∷ with_fill fill regions

-- Fills are put in one after the other, so that a later one holds.
abbrev pub with_fills : List Fill → List Region → List Region
with_fills fills regions = fold (λ regions fill. with_fill fill regions) regions fills

-- The bytes of a fill lie in one region that can be written. A fill without bytes may stand anywhere.
abbrev pub IsFillable : List Region → Fill → Type 0
IsFillable regions fill = 0 < length fill.bytes → list_any (takes_fill fill) regions ≡ true

-- No address lies in both regions.
abbrev pub AreApart : Region → Region → Type 0
AreApart r s = AreSpansApart r.start (length r.bytes) s.start (length s.bytes)

-- The segment overlaps neither the stack nor a region of the profile.
abbrev pub IsOff : Profile → Segment → Type 0
IsOff profile segment =
    All (AreApart (region_of segment)) (stack_of profile ∷ map area_of profile.regions)

-- No loaded segment overlaps the stack or a region of the profile.
abbrev pub HasNoClash : Image → Profile → Type 0
HasNoClash image profile = All (IsOff profile) image.segments
