-- The faults of the files that are given, and which of them is answered.
use Rattle.std.specs.Prelude.{◌≡◌, ℕ, ◌<◌, List, [], ◌∷◌, Contains, Option, Some, None, true}
use Rattle.std.specs.Ordering.{is_lt, nat_cmp}
use Rattle.std.specs.Cmp.Lexicographic.{slice_cmp}
use Rattle.toml.specs.Data.{Members}
use Rattle.cache_config.specs.Defaults.{HasDefaults}
use Rattle.cache_config.specs.Faults.{key_fault, profile_faults, range_fault}
use Rattle.cache_config.specs.Profiles.{IsProfileOf, Means}
use Rattle.cache_config.specs.declared.fault.ConfigFault.{ConfigFault}
use Rattle.cache_config.specs.declared.fault.ConfigFault.TheVariants as config_fault
use Rattle.cache_config.specs.declared.profile.Profile.{Profile}
use Rattle.wcet_engine.specs.declared.analysis.Analysis.{Analysis}
use Rattle.wcet_engine.specs.declared.analysis.Refused.{Refused}
use Rattle.wcet_engine.specs.declared.analysis.Refused.TheVariants.{Fault, Memory}
use Rattle.wcet_engine.specs.declared.refusal.ConfigKind.TheVariants as config
use Rattle.wcet_engine.specs.declared.refusal.Refusal.{Refusal}
use Rattle.wcet_engine.specs.declared.refusal.RefusalKind.{RefusalKind}
use Rattle.wcet_engine.specs.declared.refusal.RefusalKind.TheVariants.{TooLong, Config}
use Rattle.wcet_engine.specs.declared.refusal.Spot.{Spot}
use Rattle.wcet_engine.specs.declared.refusal.Spot.TheVariants.{Number, Key}
use Rattle.wcet_engine.specs.FileFaults.{IsAnalysisFor, OffendsOf}
use Rattle.wcet_engine.specs.Given.{Given, IsLong, file_limit}
use Rattle.wcet_engine.specs.Layers.{AnyOf, IsFirst, OneKind}
use Rattle.wcet_engine.specs.Refusals.{at_key, at_number, rank, says_at, says_at_key}

-- There is a profile's text that is no TOML document in UTF-8.
abbrev pub IsNoDocument : Option (List ℕ) → Type 0
IsNoDocument None = ⊥
IsNoDocument (Some text) = (members : Members) → Means text members → ⊥

-- The text has a fault of a key, or of a value, at this printed path.
pub record HasKeyFault (text path : List ℕ) : Type 0 where
  pub members : Members
  pub means : Means text members
  pub here : Contains (profile_faults members) (key_fault path)

pub record HasRangeFault (text path : List ℕ) : Type 0 where
  pub members : Members
  pub means : Means text members
  pub here : Contains (profile_faults members) (range_fault path)

abbrev pub IsKeyFault : Option (List ℕ) → List ℕ → Type 0
IsKeyFault None path = ⊥
IsKeyFault (Some text) path = HasKeyFault text path

abbrev pub IsRangeFault : Option (List ℕ) → List ℕ → Type 0
IsRangeFault None path = ⊥
IsRangeFault (Some text) path = HasRangeFault text path

-- The profile: the one that the text gives, or the plain one where there is no text.
abbrev pub GivesProfile : Option (List ℕ) → Profile → Type 0
GivesProfile None profile = HasDefaults profile
GivesProfile (Some text) profile = IsProfileOf text profile

-- What is said of the profile.
pub record OfProfile (given : Given) (Says : Profile → Type 0) : Type 0 where
  pub profile : Profile
  pub gives : GivesProfile given.config profile
  pub says : Says profile

-- The layers of the faults of the files: a file that is too long, a text that is no document, faults of its keys and of
-- its values, and those of the ELF file under the profile.
abbrev pub FaultOfLength : Given → RefusalKind → Spot → Type 0
FaultOfLength given = OneKind TooLong (says_at (λ place. (place ≡ file_limit) × IsLong given))

abbrev pub FaultOfText : Given → RefusalKind → Spot → Type 0
FaultOfText given = OneKind (Config config.Text) (says_at (λ place. (place ≡ 0) × IsNoDocument given.config))

abbrev pub FaultOfKeys : Given → RefusalKind → Spot → Type 0
FaultOfKeys given = OneKind (Config config.Key) (says_at_key (IsKeyFault given.config))

abbrev pub FaultOfValues : Given → RefusalKind → Spot → Type 0
FaultOfValues given = OneKind (Config config.Range) (says_at_key (IsRangeFault given.config))

abbrev pub FaultOfFile : Given → RefusalKind → Spot → Type 0
FaultOfFile given kind = says_at (λ place. OfProfile given (λ profile. OffendsOf given.elf profile kind place))

abbrev pub layers : Given → List (RefusalKind → Spot → Type 0)
layers given =
    FaultOfLength given ∷ FaultOfText given ∷ FaultOfKeys given ∷ FaultOfValues given ∷ FaultOfFile given ∷ []

-- A kind has an offender in the files at a place.
abbrev pub Offends : Given → RefusalKind → Spot → Type 0
Offends given = AnyOf (layers given)

-- A place is less than another one: numbers as they are, printed paths byte by byte.
abbrev pub IsLess : Spot → Spot → Type 0
IsLess (Number place) (Number other) = place < other
IsLess (Key path) (Key other) = is_lt (slice_cmp nat_cmp path other) ≡ true
IsLess (Number place) (Key other) = ⊥
IsLess (Key path) (Number other) = ⊥

-- The first fault of the files.
abbrev pub IsFirstFault : Given → Refusal → Type 0
IsFirstFault given refusal = IsFirst rank IsLess (Offends given) refusal.kind refusal.spot

-- What an analysis says of files without a fault: that of the ELF file under the profile.
pub record IsAnalysis (given : Given) (analysis : Analysis) : Type 0 where
  pub faultless : (kind : RefusalKind) (spot : Spot) → Offends given kind spot → ⊥
  pub analysed : OfProfile given (λ profile. IsAnalysisFor given.elf profile analysis)

-- What an error says of the files; want of memory says nothing.
abbrev pub TellsFault : Given → Refused → Type 0
TellsFault given (Fault refusal) = IsFirstFault given refusal
TellsFault given Memory = Unit {0}

-- The error for a fault of the profile's text.
abbrev pub refused_for : ConfigFault → Refused
refused_for config_fault.Text = Fault (at_number (Config config.Text) 0)
refused_for (config_fault.Key path) = Fault (at_key (Config config.Key) path)
refused_for (config_fault.Range path) = Fault (at_key (Config config.Range) path)
refused_for config_fault.Memory = Memory
