-- What the stages of an analysis say of an image.
use Rattle.std.specs.Prelude.{◌≡◌, ℕ, ◌^◌, ◌≤◌, ◌⊎◌, length}
use Rattle.cache_config.specs.declared.profile.Profile.{Profile}
use Rattle.call_contexts.specs.Programs.{HasNoReturn}
use Rattle.call_contexts.specs.Sizes.{AreSizes, most_contexts, most_places}
use Rattle.elf_mips.specs.declared.image.Image.{Image}
use Rattle.flow_net.specs.Nested.{IsNested}
use Rattle.flow_net.specs.declared.net.Net.{Net}
use Rattle.ipet_program.specs.Certificates.{IsValid}
use Rattle.ipet_program.specs.Programs.{IsCheckable, IsProgramOf, crude_limit, crude_of, full_price, place_price}
use Rattle.ipet_program.specs.declared.certificate.Certificate.{Certificate}
use Rattle.ipet_program.specs.declared.program.Program.{Program}
use Rattle.nest_solver.specs.Tables.{IsFew}
use Rattle.net_model.specs.Functions.{CanReturn}
use Rattle.net_model.specs.Net.{HasUnits, IsNet}
use Rattle.wcet_engine.specs.declared.analysis.Refused.{Refused}
use Rattle.wcet_engine.specs.declared.analysis.Refused.TheVariants.{Fault, Memory}
use Rattle.wcet_engine.specs.declared.refusal.Refusal.{Refusal}
use Rattle.wcet_engine.specs.declared.refusal.RefusalKind.TheVariants.{NeverReturns, TooManyUnits, BoundTooLarge}
use Rattle.wcet_engine.specs.Certificates.{IsOneLeaf}
use Rattle.wcet_engine.specs.ProgramFaults.{IsTooLarge, IsTooMany}
use Rattle.wcet_engine.specs.Refusals.{at_number}
use Rattle.wcet_engine.specs.Runs.{HasPaths}

-- Why a program without a fault of its code has no net: its entry function never returns, or else it has too many
-- contexts or places.
abbrev pub IsNetRefusal : Image → (entry : ℕ) → Refusal → Type 0
IsNetRefusal image entry refusal =
    ((refusal ≡ at_number NeverReturns entry) × HasNoReturn image entry)
    ⊎ ((refusal ≡ at_number TooManyUnits entry) × CanReturn image entry × IsTooMany image entry)

abbrev pub TellsNoNet : Image → ℕ → Refused → Type 0
TellsNoNet image entry (Fault refusal) = IsNetRefusal image entry refusal
TellsNoNet image entry Memory = Unit {0}

-- The net of a program whose entry function can return, within the limits: a unit stands at each of its places, and
-- each run whose indirect transfers go to recorded targets and which returns to its callers goes along a path of it.
pub record IsNetOf (image : Image) (entry : ℕ) (net : Net) : Type 0 where
  pub is_net : IsNet image entry net
  pub nested : IsNested net
  pub units : HasUnits image net
  pub few : IsFew net
  pub arcs : length net.arcs ≤ 2 ^ 25
  pub contexts : length net.contexts ≤ most_contexts
  pub places : length net.places ≤ most_places
  pub sizes : AreSizes image entry (length net.contexts) (length net.places)
  pub can_return : CanReturn image entry
  pub paths : HasPaths image entry net

-- A certificate of the program of a net, which shows by one leaf the bound that its counts reach.
pub record Certifies (image : Image) (profile : Profile) (net : Net) (certificate : Certificate) : Type 0 where
  pub program : Program
  pub is : IsProgramOf net (place_price profile image net) program
  -- Its crude bound with all stages keeps its limit.
  pub low : crude_of net (full_price profile image net) ≤ crude_limit
  pub checkable : IsCheckable program
  pub valid : IsValid program certificate
  pub reached : certificate.reached ≡ certificate.bound
  pub tree : IsOneLeaf certificate.tree
  pub line : certificate.reached_line ≡ 2

-- The crude bound of the program's net is too large.
abbrev pub TellsTooLarge : Image → Profile → ℕ → Refused → Type 0
TellsTooLarge image profile entry (Fault refusal) = (refusal ≡ at_number BoundTooLarge entry) × IsTooLarge image profile entry
TellsTooLarge image profile entry Memory = Unit {0}
