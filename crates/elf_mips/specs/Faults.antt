-- Which faults a file has, and which of them is answered.
use Rattle.std.specs.Prelude.{◌≡◌, ℕ, ◌<◌, ◌≤◌, List, [], false, Some, Option, All, Contains, ⊤}
use Rattle.elf_mips.specs.Headers.{header_at, is_good}
use Rattle.elf_mips.specs.Sections.{section_at, is_good_section}
use Rattle.elf_mips.specs.Records.{record_places_to}
use Rattle.elf_mips.specs.Rules.{Rule, IsLeastOf, record_rules_from, broken_places, first_place, size_rules, magic_rules, kind_rules, table_rules, segment_rules, section_rules, record_rules}
use Rattle.elf_mips.specs.declared.fault.ElfKind.{ElfKind}
use Rattle.elf_mips.specs.declared.fault.ElfKind.TheVariants.{Short, NotElf, NotThisKind, BadTable, BadSegment, BadSection, BadRecord}
use Rattle.elf_mips.specs.declared.fault.ElfFault.{ElfFault}
use Rattle.elf_mips.specs.declared.fault.ElfFault.TheVariants.{Bad, Memory}

-- The rules of each kind.
abbrev pub rules_of : ElfKind → List ℕ → List Rule
rules_of Short file = size_rules file
rules_of NotElf file = magic_rules file
rules_of NotThisKind file = kind_rules file
rules_of BadTable file = table_rules file
rules_of BadSegment file = segment_rules file
rules_of BadSection file = section_rules file
rules_of BadRecord file = record_rules file

-- The places of the faults of a kind.
abbrev pub offenders : ElfKind → List ℕ → List ℕ
offenders kind file = broken_places (rules_of kind file)

-- The order in which kinds are answered.
abbrev pub order : ElfKind → ℕ
order Short = 0
order NotElf = 1
order NotThisKind = 2
order BadTable = 3
order BadSegment = 4
order BadSection = 5
order BadRecord = 6

-- The kinds before the n-th have no fault.
abbrev pub IsCleanBelow : ℕ → List ℕ → Type 0
IsCleanBelow n file = (kind : ElfKind) → order kind < n → offenders kind file ≡ []

-- The file has no fault.
abbrev pub IsClean : List ℕ → Type 0
IsClean file = (kind : ElfKind) → offenders kind file ≡ []

-- The fault that is answered: there is one of this kind at this place, no earlier kind has a fault,
-- and this kind has none at a lesser place.
pub record IsFirstFault (file : List ℕ) (kind : ElfKind) (place : ℕ) : Type 0 where
  pub here : Contains (offenders kind file) place
  pub first : IsCleanBelow (order kind) file
  pub least : All (λ other. place ≤ other) (offenders kind file)

-- An error is of this kind, at the place of the first broken one of the kind's rules.
abbrev pub IsBroken : ElfKind → List Rule → ElfFault → Type 0
IsBroken kind rules Memory = ⊥
IsBroken kind rules (Bad k place) = (k ≡ kind) × (first_place rules ≡ Some place)

-- An error says that the program header of this number is bad.
abbrev pub RefusesHeader : List ℕ → ℕ → ElfFault → Type 0
RefusesHeader file number Memory = ⊤
RefusesHeader file number (Bad kind place) =
    (kind ≡ BadSegment) × (place ≡ header_at file number) × (is_good file number ≡ false)

-- An error says that the section of this number is bad.
abbrev pub RefusesSection : List ℕ → ℕ → ElfFault → Type 0
RefusesSection file number Memory = ⊥
RefusesSection file number (Bad kind place) =
    (kind ≡ BadSection) × (place ≡ section_at file number) × (is_good_section file number ≡ false)

-- The least of the bad records in the first n sections.
abbrev pub HasLeast : List ℕ → ℕ → Option ℕ → Type 0
HasLeast file n least =
    IsLeastOf (broken_places (record_rules_from file 0 (record_places_to file n))) least

-- What an error says of a file; want of memory says nothing.
abbrev pub Tells : List ℕ → ElfFault → Type 0
Tells file Memory = ⊤
Tells file (Bad kind place) = IsFirstFault file kind place
