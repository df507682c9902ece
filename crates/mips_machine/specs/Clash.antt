-- Addresses that a loaded segment has in common with the memory that a profile gives.
use Rattle.std.specs.Prelude.{ℕ, ◌+◌, ◌<◌, ◌≤◌, List, ◌∷◌, length, map, min, Contains, Option, Some, None}
use Rattle.cache_config.specs.declared.profile.Profile.{Profile}
use Rattle.elf_mips.specs.declared.image.Image.{Image}
use Rattle.elf_mips.specs.declared.segment.Segment.{Segment}
use Rattle.mips_decode.specs.State.{Region}
use Rattle.mips_machine.specs.Image.{area_of, region_of, stack_of}

-- The address lies in the region.
pub record IsIn (region : Region) (address : ℕ) : Type 0 where
  pub from : region.start ≤ address
  pub below : address < region.start + length region.bytes

-- The address lies in both regions.
pub record IsShared (region other : Region) (address : ℕ) : Type 0 where
  pub first : IsIn region address
  pub second : IsIn other address

-- The address lies in the region and in one of the others.
pub record IsSharedBy (region : Region) (others : List Region) (address : ℕ) : Type 0 where
  pub other : Region
  pub listed : Contains others other
  pub shared : IsShared region other address

-- The stack and the regions of the profile.
abbrev pub given_regions : Profile → List Region
given_regions profile = stack_of profile ∷ map area_of profile.regions

-- The address lies in one of the segments, and in the stack or a region of the profile.
pub record IsClashOf (segments : List Segment) (profile : Profile) (address : ℕ) : Type 0 where
  pub segment : Segment
  pub loaded : Contains segments segment
  pub shared : IsSharedBy (region_of segment) (given_regions profile) address

abbrev pub IsClash : Image → Profile → ℕ → Type 0
IsClash image profile address = IsClashOf image.segments profile address

-- The least address of which something is said; none where it is said of no address.
pub record IsLeast (Says : ℕ → Type 0) (address : ℕ) : Type 0 where
  pub says : Says address
  pub least : (lesser : ℕ) → lesser < address → Says lesser → ⊥

abbrev pub FindsLeast : (ℕ → Type 0) → Option ℕ → Type 0
FindsLeast Says None = (address : ℕ) → Says address → ⊥
FindsLeast Says (Some address) = IsLeast Says address

-- The lesser of two addresses.
abbrev pub lesser_of : Option ℕ → Option ℕ → Option ℕ
lesser_of None other = other
lesser_of (Some address) None = Some address
lesser_of (Some address) (Some other) = Some (min address other)
