-- The first fault of the given files: what their lengths, the profile's text and the ELF file tell.
use Rattle.std.proofs.Common.{◌≡◌, ℕ, ◌<◌, inl, inr, List, [], ◌∷◌, Contains, Option, Some, None, Result, Ok, Err, IfOk, IfErr, refl, sym, ap, subst, ◌∙◌, arith}
use Rattle.cache_config.specs.Faults.{key_fault, profile_faults, range_fault}
use Rattle.cache_config.specs.declared.profile.Profile.{Profile}
use Rattle.wcet_engine.specs.declared.analysis.Analysis.{Analysis}
use Rattle.wcet_engine.specs.declared.analysis.Refused.{Refused}
use Rattle.wcet_engine.specs.declared.analysis.Refused.TheVariants.{Fault, Memory}
use Rattle.wcet_engine.specs.declared.refusal.ConfigKind.TheVariants as config
use Rattle.wcet_engine.specs.declared.refusal.RefusalKind.{RefusalKind}
use Rattle.wcet_engine.specs.declared.refusal.RefusalKind.TheVariants.{TooLong, Config}
use Rattle.wcet_engine.specs.declared.refusal.Spot.{Spot}
use Rattle.wcet_engine.specs.declared.refusal.Spot.TheVariants.{Number, Key}
use Rattle.wcet_engine.specs.Faults.{FaultOfFile, FaultOfKeys, FaultOfLength, FaultOfText, FaultOfValues, GivesProfile, IsAnalysis, IsKeyFault, IsLess, IsNoDocument, IsRangeFault, OfProfile, Offends, TellsFault, layers}
use Rattle.wcet_engine.specs.FileFaults.{IsAnalysisFor, IsFirstFaultOf, OffendsOf, TellsFaultOf}
use Rattle.wcet_engine.specs.Given.{Fits, FitsText, Given, IsLong, IsLongText, file_limit}
use Rattle.wcet_engine.specs.Layers.{IsFirst}
use Rattle.wcet_engine.specs.Refusals.{rank, says_at, says_at_key}
use Rattle.wcet_engine.proofs.FileFaultLemmas.{after-config, file-same}
use Rattle.wcet_engine.proofs.LayerLaws.{AreFree, ComeAfter, IsFree, after-more, after-next, after-none, first-of, first-same, none-of}
use Rattle.wcet_engine.proofs.SameFiles.{same-members, same-profile}

-- What is said of a place is said of a number, or of a key.
by-spot : (Says : ℕ → Type 0) (spot : Spot) → says_at Says spot → (place : ℕ) × (spot ≡ Number place) × Says place
by-spot Says (Number place) says = (place, refl, says)
by-spot Says (Key path) says = absurd says

by-key : (Says : List ℕ → Type 0) (spot : Spot) → says_at_key Says spot → (path : List ℕ) × (spot ≡ Key path) × Says path
by-key Says (Number place) says = absurd says
by-key Says (Key path) says = (path, refl, says)

-- The kinds of the files come one after the other.
pub after-values : (files : Given) → ComeAfter rank (Config config.Range) (FaultOfFile files ∷ [])
after-values files =
    after-more rank (Config config.Range) (FaultOfFile files) []
    (λ other spot fault.
    let at = by-spot (λ place. OfProfile files (λ profile. OffendsOf files.elf profile other place)) spot fault in
    (after-config files.elf at.2.profile).later other at.0 at.2.says) (after-none rank (Config config.Range))

pub after-keys : (files : Given) → ComeAfter rank (Config config.Key) (FaultOfValues files ∷ FaultOfFile files ∷ [])
after-keys files = after-next rank (Config config.Key) (Config config.Range) _ _ (omega arith) (after-values files)

pub after-text : (files : Given) → ComeAfter rank (Config config.Text) (FaultOfKeys files ∷ FaultOfValues files ∷ FaultOfFile files ∷ [])
after-text files = after-next rank (Config config.Text) (Config config.Key) _ _ (omega arith) (after-keys files)

pub after-length : (files : Given) →
    ComeAfter rank TooLong (FaultOfText files ∷ FaultOfKeys files ∷ FaultOfValues files ∷ FaultOfFile files ∷ [])
after-length files = after-next rank TooLong (Config config.Text) _ _ (omega arith) (after-text files)

-- Layers without a fault.
not-long : (config : Option (List ℕ)) → FitsText config → IsLongText config → ⊥
not-long None fits long = long
not-long (Some text) fits long = omega (arith, fits, long)

no-long : (files : Given) → Fits files → IsLong files → ⊥
no-long files fits (inl long) = let low = fits.elf in omega (arith, low, long)
no-long files fits (inr long) = not-long files.config fits.config long

pub free-length : (files : Given) → Fits files → IsFree (FaultOfLength files)
free-length files fits = λ kind spot fault.
    let at = by-spot (λ place. (place ≡ file_limit) × IsLong files) spot fault.offends in no-long files fits at.2.1

pub free-text : (files : Given) → (IsNoDocument files.config → ⊥) → IsFree (FaultOfText files)
free-text files means = λ kind spot fault.
    let at = by-spot (λ place. (place ≡ 0) × IsNoDocument files.config) spot fault.offends in means at.2.1

pub free-keys : (files : Given) → ((path : List ℕ) → IsKeyFault files.config path → ⊥) → IsFree (FaultOfKeys files)
free-keys files none = λ kind spot fault. let at = by-key (IsKeyFault files.config) spot fault.offends in none at.0 at.2

free-values : (files : Given) → ((path : List ℕ) → IsRangeFault files.config path → ⊥) → IsFree (FaultOfValues files)
free-values files none = λ kind spot fault. let at = by-key (IsRangeFault files.config) spot fault.offends in none at.0 at.2

-- A text that gives a profile has no fault.
has-document : (config : Option (List ℕ)) (profile : Profile) → GivesProfile config profile → IsNoDocument config → ⊥
has-document None profile gives none = none
has-document (Some text) profile gives none = none gives.members gives.means

no-fault : {F : Type 0} (faults : List F) (fault : F) → faults ≡ [] → Contains faults fault → ⊥
no-fault faults fault none here = let nothing = subst (λ items. Contains items fault) none here in omega (arith, nothing.1)

no-key : (config : Option (List ℕ)) (profile : Profile) (path : List ℕ) → GivesProfile config profile → IsKeyFault config path → ⊥
no-key None profile path gives fault = fault
no-key (Some text) profile path gives fault =
    let members = same-members text fault.members gives.members fault.means gives.means in
    no-fault (profile_faults fault.members) (key_fault path) (ap profile_faults members ∙ gives.faultless) fault.here

no-range : (config : Option (List ℕ)) (profile : Profile) (path : List ℕ) → GivesProfile config profile → IsRangeFault config path → ⊥
no-range None profile path gives fault = fault
no-range (Some text) profile path gives fault =
    let members = same-members text fault.members gives.members fault.means gives.means in
    no-fault (profile_faults fault.members) (range_fault path) (ap profile_faults members ∙ gives.faultless) fault.here

-- What is said of the profile is said of each that is given.
of-profile : (files : Given) (profile : Profile) (kind : RefusalKind) (place : ℕ) → GivesProfile files.config profile →
    OfProfile files (λ other. OffendsOf files.elf other kind place) → OffendsOf files.elf profile kind place
of-profile files profile kind place gives of =
    file-same files.elf of.profile profile kind place (same-profile files.config of.profile profile of.gives gives) of.says

from-file : (files : Given) (profile : Profile) (kind : RefusalKind) (spot : Spot) → GivesProfile files.config profile → FaultOfFile files kind spot →
    (place : ℕ) × (spot ≡ Number place) × OffendsOf files.elf profile kind place
from-file files profile kind spot gives fault =
    let at = by-spot (λ place. OfProfile files (λ other. OffendsOf files.elf other kind place)) spot fault in
    (at.0, at.1, of-profile files profile kind at.0 gives at.2)

free-config : (files : Given) (profile : Profile) → Fits files → GivesProfile files.config profile →
    AreFree (FaultOfLength files ∷ FaultOfText files ∷ FaultOfKeys files ∷ FaultOfValues files ∷ [])
free-config files profile fits gives = (
  free-length files fits,
  (
    free-text files (has-document files.config profile gives),
    (
      free-keys files (λ path. no-key files.config profile path gives),
      (
        free-values files (λ path. no-range files.config profile path gives),
        tt,
      ),
    ),
  ),
)

free-file : (files : Given) (profile : Profile) → GivesProfile files.config profile → IsFree (OffendsOf files.elf profile) →
    IsFree (FaultOfFile files)
free-file files profile gives free = λ kind spot fault. let at = from-file files profile kind spot gives fault in free kind at.0 at.2

-- So the first fault of the ELF file under the profile is that of the files.
first-file : (files : Given) (profile : Profile) (kind : RefusalKind) (place : ℕ) → Fits files → GivesProfile files.config profile →
    IsFirstFaultOf files.elf profile kind place → IsFirst rank IsLess (Offends files) kind (Number place)
first-file files profile kind place fits gives first =
    first-of rank IsLess (FaultOfLength files ∷ FaultOfText files ∷ FaultOfKeys files ∷ FaultOfValues files ∷ []) (FaultOfFile files) []
    kind (Number place) (free-config files profile fits gives) (after-none rank kind)
    (first-same rank ◌<◌ IsLess (OffendsOf files.elf profile) (FaultOfFile files) (λ at. Number at) kind place
    (λ other spot offends. record { profile = profile; gives = gives; says = offends })
    (λ other spot fault. from-file files profile other spot gives fault) (λ one other less. less) first)

tells-file : (files : Given) (profile : Profile) (told : Refused) → Fits files → GivesProfile files.config profile →
    TellsFaultOf files.elf profile told → TellsFault files told
tells-file files profile (Fault refusal) fits gives told =
    let at = by-spot (IsFirstFaultOf files.elf profile refusal.kind) refusal.spot told in
    subst (λ spot. IsFirst rank IsLess (Offends files) refusal.kind spot) (sym at.1)
    (first-file files profile refusal.kind at.0 fits gives at.2)
tells-file files profile Memory fits gives told = tt

is-analysis : (files : Given) (profile : Profile) (analysis : Analysis) → Fits files → GivesProfile files.config profile →
    IsAnalysisFor files.elf profile analysis → IsAnalysis files analysis
is-analysis files profile analysis fits gives of = record {
  faultless = none-of (layers files) (
    free-length files fits,
    (
      free-text files (has-document files.config profile gives),
      (
        free-keys files (λ path. no-key files.config profile path gives),
        (
          free-values files (λ path. no-range files.config profile path gives),
          (free-file files profile gives of.faultless, tt),
        ),
      ),
    ),
  );
  analysed = record { profile = profile; gives = gives; says = of };
}

-- So the answer of the ELF file is one of the files.
pub answers-refused : (files : Given) (profile : Profile) (result : Result Analysis Refused) → Fits files → GivesProfile files.config profile →
    IfErr result (TellsFaultOf files.elf profile) → IfErr result (TellsFault files)
answers-refused files profile (Ok analysis) fits gives told = told
answers-refused files profile (Err refused) fits gives told = tells-file files profile refused fits gives told

pub answers-analysed : (files : Given) (profile : Profile) (result : Result Analysis Refused) → Fits files → GivesProfile files.config profile →
    IfOk result (IsAnalysisFor files.elf profile) → IfOk result (IsAnalysis files)
answers-analysed files profile (Ok analysis) fits gives told = is-analysis files profile analysis fits gives told
answers-analysed files profile (Err refused) fits gives told = told
