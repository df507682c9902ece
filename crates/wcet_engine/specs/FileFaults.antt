-- An ELF file under a profile: its faults, which of them is answered, and what its analysis says where it has none.
use Rattle.std.specs.Prelude.{◌≡◌, ℕ, ◌<◌, List, [], ◌∷◌, Contains, Option, Some, None, length}
use Rattle.cache_config.specs.declared.profile.Profile.{Profile}
use Rattle.elf_mips.specs.declared.fault.ElfFault.{ElfFault}
use Rattle.elf_mips.specs.declared.fault.ElfFault.TheVariants as elf_fault
use Rattle.elf_mips.specs.declared.image.Image.{Image}
use Rattle.elf_mips.specs.Faults.{offenders}
use Rattle.elf_mips.specs.Image.{IsImage}
use Rattle.elf_mips.specs.Symbols.{symbol_at}
use Rattle.wcet_engine.specs.declared.analysis.Analysis.{Analysis}
use Rattle.wcet_engine.specs.declared.analysis.Refused.{Refused}
use Rattle.wcet_engine.specs.declared.analysis.Refused.TheVariants.{Fault, Memory}
use Rattle.wcet_engine.specs.declared.refusal.RefusalKind.{RefusalKind}
use Rattle.wcet_engine.specs.declared.refusal.RefusalKind.TheVariants.{Elf, NoSymbol, RegionClash, Unbuilt}
use Rattle.mips_machine.specs.Clash.{IsClash}
use Rattle.wcet_engine.specs.Layers.{AnyOf, IsFirst, Nested, OneKind}
use Rattle.wcet_engine.specs.ProgramFaults.{IsAnalysisOf, OffendsIn}
use Rattle.wcet_engine.specs.Refusals.{at_number, rank, says_at}

-- Where a program is entered: at the first symbol of the name that the profile has, or else at the file's own entry.
abbrev pub entry_by : Image → Option (List ℕ) → Option ℕ
entry_by image None = Some image.entry
entry_by image (Some name) = symbol_at image.symbols name

abbrev pub entry_of : Image → Profile → Option ℕ
entry_of image profile = entry_by image profile.entry

-- What is said of the image of a file.
pub record OfImage (file : List ℕ) (Says : Image → Type 0) : Type 0 where
  pub image : Image
  pub read : IsImage file image
  pub says : Says image

-- What is said of the program of a file: of its image and the entry.
pub record OfProgram (file : List ℕ) (profile : Profile) (Says : Image → ℕ → Type 0) : Type 0 where
  pub image : Image
  pub read : IsImage file image
  pub entry : ℕ
  pub enters : entry_of image profile ≡ Some entry
  pub says : Says image entry

-- What the profile asks for isn't built yet: it has a cache.
abbrev pub IsUnbuilt : Profile → Type 0
IsUnbuilt profile = 0 < length profile.levels

-- The layers of the faults of a file under a profile: those that its reader finds, a name of the entry that no symbol
-- has, memory that clashes, a profile that isn't built yet, and those of the program.
abbrev pub FaultOfTables : List ℕ → RefusalKind → ℕ → Type 0
FaultOfTables file = Nested Elf (λ kind place. Contains (offenders kind file) place)

abbrev pub FaultOfEntry : List ℕ → Profile → RefusalKind → ℕ → Type 0
FaultOfEntry file profile =
    OneKind NoSymbol (λ place. (place ≡ 0) × OfImage file (λ image. entry_of image profile ≡ None))

abbrev pub FaultOfMemory : List ℕ → Profile → RefusalKind → ℕ → Type 0
FaultOfMemory file profile = OneKind RegionClash (λ place. OfImage file (λ image. IsClash image profile place))

abbrev pub FaultOfCaches : Profile → RefusalKind → ℕ → Type 0
FaultOfCaches profile = OneKind Unbuilt (λ place. (place ≡ 0) × IsUnbuilt profile)

abbrev pub FaultOfProgram : List ℕ → Profile → RefusalKind → ℕ → Type 0
FaultOfProgram file profile kind place =
    OfProgram file profile (λ image entry. OffendsIn image profile entry kind place)

abbrev pub file_layers : List ℕ → Profile → List (RefusalKind → ℕ → Type 0)
file_layers file profile =
    FaultOfTables file
    ∷ FaultOfEntry file profile
    ∷ FaultOfMemory file profile
    ∷ FaultOfCaches profile
    ∷ FaultOfProgram file profile
    ∷ []

-- A kind has an offender in the file under the profile, at a place.
abbrev pub OffendsOf : List ℕ → Profile → RefusalKind → ℕ → Type 0
OffendsOf file profile = AnyOf (file_layers file profile)

-- The first fault of the file under the profile.
abbrev pub IsFirstFaultOf : List ℕ → Profile → RefusalKind → ℕ → Type 0
IsFirstFaultOf file profile = IsFirst rank ◌<◌ (OffendsOf file profile)

-- What an error says of a file under a profile; want of memory says nothing.
abbrev pub TellsFaultOf : List ℕ → Profile → Refused → Type 0
TellsFaultOf file profile (Fault refusal) = says_at (IsFirstFaultOf file profile refusal.kind) refusal.spot
TellsFaultOf file profile Memory = Unit {0}

-- What an analysis says of a file without a fault: that of the program at its entry.
pub record IsAnalysisFor (file : List ℕ) (profile : Profile) (analysis : Analysis) : Type 0 where
  pub faultless : (kind : RefusalKind) (place : ℕ) → OffendsOf file profile kind place → ⊥
  pub program : OfProgram file profile (λ image entry. IsAnalysisOf image profile entry analysis)

-- The error for a fault of the reader.
abbrev pub refused_of : ElfFault → Refused
refused_of (elf_fault.Bad kind offset) = Fault (at_number (Elf kind) offset)
refused_of elf_fault.Memory = Memory
