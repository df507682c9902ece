-- The program at an entry of an image, under a profile: its faults, which of them is answered, and what its analysis
-- says where it has none.
use Rattle.std.specs.Prelude.{◌≡◌, ℕ, ◌<◌, ◌≤ℤ◌, pos, List, [], ◌∷◌}
use Rattle.cache_config.specs.declared.profile.Profile.{Profile}
use Rattle.call_contexts.specs.Programs.{AreTooMany, HasNoReturn}
use Rattle.call_contexts.specs.Sizes.{AreSizes}
use Rattle.elf_mips.specs.declared.image.Image.{Image}
use Rattle.flow_net.specs.declared.net.Net.{Net}
use Rattle.ipet_program.specs.Certificates.{IsValid}
use Rattle.ipet_program.specs.Counts.{IsFeasible, value_of}
use Rattle.ipet_program.specs.Programs.{IsProgramOf, crude_limit, crude_of, full_price, place_price}
use Rattle.ipet_program.specs.declared.program.Program.{Program}
use Rattle.loop_nest.specs.Programs.{IsIrreducibleIn, IsUnboundedIn}
use Rattle.net_model.specs.declared.unit.CodeKind.{CodeKind}
use Rattle.net_model.specs.declared.unit.CodeKind.TheVariants as code
use Rattle.net_model.specs.Faults.{Offends as IsCodeOffender}
use Rattle.net_model.specs.Net.{IsNet}
use Rattle.unit_graph.specs.declared.fault.CodeFault.{CodeFault}
use Rattle.unit_graph.specs.declared.fault.CodeFault.TheVariants as code_fault
use Rattle.wcet_engine.specs.declared.analysis.Analysis.{Analysis}
use Rattle.wcet_engine.specs.declared.analysis.Refused.{Refused}
use Rattle.wcet_engine.specs.declared.analysis.Refused.TheVariants.{Fault, Memory}
use Rattle.wcet_engine.specs.declared.refusal.RefusalKind.{RefusalKind}
use Rattle.wcet_engine.specs.declared.refusal.RefusalKind.TheVariants.{Code, NeverReturns, TooManyUnits, BoundTooLarge}
use Rattle.wcet_engine.specs.Certificates.{IsOneLeaf}
use Rattle.wcet_engine.specs.Layers.{AnyOf, IsFirst, Nested, OneKind}
use Rattle.wcet_engine.specs.Refusals.{at_number, rank, says_at}
use Rattle.wcet_engine.specs.Walks.{WalksNet}
use Rattle.wcet_engine.specs.Runs.{CountsRuns, HasPaths}
use Rattle.wcet_engine.specs.Headline.{Bounds}

-- The program's code has a fault of the kind at the place: a reached address holds it, a function calls itself, a unit
-- lies on a cycle without back arcs, or a loop has no bound.
abbrev pub IsCodeFault : CodeKind → Image → (entry place : ℕ) → Type 0
IsCodeFault code.Irreducible image entry place = IsIrreducibleIn image entry place
IsCodeFault code.NoBound image entry place = IsUnboundedIn image entry place
IsCodeFault kind image entry place = IsCodeOffender image entry kind place

-- The program has more contexts or places than a net may have.
pub record IsTooMany (image : Image) (entry : ℕ) : Type 0 where
  pub contexts : ℕ
  pub places : ℕ
  pub sizes : AreSizes image entry contexts places
  pub many : AreTooMany contexts places

-- The crude bound of a net is above its limit: what each place costs with all stages of its accesses, times the bounds
-- of the loops that hold it.
abbrev pub IsLargeNet : Image → Profile → Net → Type 0
IsLargeNet image profile net = crude_limit < crude_of net (full_price profile image net)

-- The crude bound of the program's net is above its limit.
pub record IsTooLarge (image : Image) (profile : Profile) (entry : ℕ) : Type 0 where
  pub net : Net
  pub is_net : IsNet image entry net
  pub large : IsLargeNet image profile net

-- The layers of a program's faults: those of its code and its loops, an entry function that never returns, too many
-- contexts or places, and a crude bound above its limit.
abbrev pub FaultOfCode : Image → ℕ → RefusalKind → ℕ → Type 0
FaultOfCode image entry = Nested Code (λ kind place. IsCodeFault kind image entry place)

abbrev pub FaultOfReturn : Image → ℕ → RefusalKind → ℕ → Type 0
FaultOfReturn image entry = OneKind NeverReturns (λ place. (place ≡ entry) × HasNoReturn image entry)

abbrev pub FaultOfSize : Image → ℕ → RefusalKind → ℕ → Type 0
FaultOfSize image entry = OneKind TooManyUnits (λ place. (place ≡ entry) × IsTooMany image entry)

abbrev pub FaultOfBound : Image → Profile → ℕ → RefusalKind → ℕ → Type 0
FaultOfBound image profile entry = OneKind BoundTooLarge (λ place. (place ≡ entry) × IsTooLarge image profile entry)

abbrev pub program_layers : Image → Profile → ℕ → List (RefusalKind → ℕ → Type 0)
program_layers image profile entry =
    FaultOfCode image entry ∷ FaultOfReturn image entry ∷ FaultOfSize image entry ∷ FaultOfBound image profile entry ∷ []

-- A kind has an offender in the program at a place. All other kinds are found before the program is looked at.
abbrev pub OffendsIn : Image → Profile → ℕ → RefusalKind → ℕ → Type 0
OffendsIn image profile entry = AnyOf (program_layers image profile entry)

-- The first fault of the program.
abbrev pub IsFirstFaultIn : Image → Profile → ℕ → RefusalKind → ℕ → Type 0
IsFirstFaultIn image profile entry = IsFirst rank ◌<◌ (OffendsIn image profile entry)

-- What an error says of a program; want of memory says nothing.
abbrev pub TellsFaultIn : Image → Profile → ℕ → Refused → Type 0
TellsFaultIn image profile entry (Fault refusal) = says_at (IsFirstFaultIn image profile entry refusal.kind) refusal.spot
TellsFaultIn image profile entry Memory = Unit {0}

-- What an analysis says of a program without a fault.
pub record IsAnalysisOf (image : Image) (profile : Profile) (entry : ℕ) (analysis : Analysis) : Type 0 where
  pub faultless : (kind : RefusalKind) (place : ℕ) → OffendsIn image profile entry kind place → ⊥
  -- Its net is the program's, and the runs go along paths of it.
  pub is_net : IsNet image entry analysis.net
  pub paths : HasPaths image entry analysis.net
  -- Each run that the headline speaks of is a walk of the net that moves the machine's caches, up to any state.
  pub walks : WalksNet image profile entry analysis.net
  -- The net's integer program under the profile.
  pub program : Program
  pub is_program : IsProgramOf analysis.net (place_price profile image analysis.net) program
  -- The certificate is valid for this program: its counts are feasible, and their value is its bound. Its tree is one
  -- leaf, which shows the bound. The counts' value is told in the second line.
  pub valid : IsValid program analysis.certificate
  pub reached : analysis.certificate.reached ≡ analysis.certificate.bound
  pub tree : IsOneLeaf analysis.certificate.tree
  pub line : analysis.certificate.reached_line ≡ 2
  -- No counts that the program allows have a value above the bound.
  pub greatest : (counts : ℕ → ℕ) → IsFeasible program counts → value_of program counts ≤ℤ pos analysis.certificate.bound
  -- The program allows the counts of each run that the headline speaks of, and their value is the run's cycles. So no
  -- such run takes more cycles than the bound.
  pub counted : CountsRuns image profile entry analysis.net program
  pub bounds : Bounds image profile entry analysis.certificate.bound

-- The error for a fault of the code.
abbrev pub refused_by : CodeFault → Refused
refused_by (code_fault.Bad kind address) = Fault (at_number (Code kind) address)
refused_by code_fault.Memory = Memory
