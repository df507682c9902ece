-- The faults of the lengths and of the profile's text.
use Rattle.std.proofs.Common.{◌≡◌, ℕ, List, [], ◌∷◌, All, Bool, Contains, Some, true, refl, sym, ap, subst, ◌∙◌, arith}
use Rattle.std.specs.Prelude.{false}
use Rattle.cache_config.specs.Faults.{is_before, key_fault, profile_faults, range_fault}
use Rattle.cache_config.specs.Profiles.{Means, Tells}
use Rattle.cache_config.specs.declared.fault.ConfigFault.{ConfigFault}
use Rattle.cache_config.specs.declared.fault.ConfigFault.TheVariants as config_fault
use Rattle.toml.specs.Data.{Members}
use Rattle.wcet_engine.specs.declared.refusal.ConfigKind.TheVariants as config
use Rattle.wcet_engine.specs.declared.refusal.RefusalKind.{RefusalKind}
use Rattle.wcet_engine.specs.declared.refusal.RefusalKind.TheVariants.{TooLong, Config}
use Rattle.wcet_engine.specs.declared.refusal.Spot.{Spot}
use Rattle.wcet_engine.specs.declared.refusal.Spot.TheVariants.{Number, Key}
use Rattle.wcet_engine.specs.Faults.{FaultOfKeys, FaultOfLength, FaultOfText, FaultOfValues, IsFirstFault, IsKeyFault, IsLess, IsNoDocument, IsRangeFault, TellsFault, refused_for}
use Rattle.wcet_engine.specs.Given.{Fits, Given, IsLong, file_limit, given}
use Rattle.wcet_engine.specs.Layers.{IsFirst, OneKind}
use Rattle.wcet_engine.specs.Refusals.{at_key, at_number, rank, says_at, says_at_key}
use Rattle.wcet_engine.proofs.FaultLemmas.{after-keys, after-length, after-text, after-values, free-keys, free-length, free-text}
use Rattle.wcet_engine.proofs.LayerLaws.{first-least, first-of}
use Rattle.wcet_engine.proofs.SameFiles.{same-members}

-- The first fault of a kind whose offenders have one number alone, or are keys.
first-number : (kind : RefusalKind) (at : ℕ) (Says : Type 0) → Says →
    IsFirst rank IsLess (OneKind kind (says_at (λ place. (place ≡ at) × Says))) kind (Number at)
first-number kind at Says says =
    first-least rank IsLess (says_at (λ place. (place ≡ at) × Says)) kind (Number at) (refl, says) lesser where
      lesser : (spot : Spot) → IsLess spot (Number at) → says_at (λ place. (place ≡ at) × Says) spot → ⊥
      lesser (Number other) less offends = let same = offends.0 in omega (arith, less, same)
      lesser (Key path) less offends = less

first-path : (kind : RefusalKind) (path : List ℕ) (Offends : List ℕ → Type 0) → Offends path →
    ((other : List ℕ) → IsLess (Key other) (Key path) → Offends other → ⊥) →
    IsFirst rank IsLess (OneKind kind (says_at_key Offends)) kind (Key path)
first-path kind path Offends offends least =
    first-least rank IsLess (says_at_key Offends) kind (Key path) offends lesser where
      lesser : (spot : Spot) → IsLess spot (Key path) → says_at_key Offends spot → ⊥
      lesser (Number place) less fault = less
      lesser (Key other) less fault = least other less fault

-- A file above its limit is too long, before all else.
pub first-long : (files : Given) → IsLong files → IsFirstFault files (at_number TooLong file_limit)
first-long files long =
    first-of rank IsLess [] (FaultOfLength files) _ TooLong (Number file_limit) tt (after-length files)
    (first-number TooLong file_limit (IsLong files) long)

-- A text that is no document.
first-text : (files : Given) → Fits files → IsNoDocument files.config → IsFirstFault files (at_number (Config config.Text) 0)
first-text files fits none =
    first-of rank IsLess (FaultOfLength files ∷ []) (FaultOfText files) _ (Config config.Text) (Number 0)
    (free-length files fits, tt) (after-text files) (first-number (Config config.Text) 0 (IsNoDocument files.config) none)

-- No fault comes before the first one.
no-earlier : {F : Type 0} (before : F → F → Bool) (faults others : List F) (first other : F) → others ≡ faults →
    All (λ fault. before fault first ≡ false) faults → Contains others other → before other first ≡ true → ⊥
no-earlier before faults others first other same none there earlier =
    let here = subst (λ items. Contains items other) same there in
    let later : before other first ≡ false = subst (λ fault. before fault first ≡ false) here.2 (none here.0 other here.1) in
    let no : true ≡ false = sym earlier ∙ later in cc

-- A text has one list of faults.
faults-same : (text : List ℕ) (one other : Members) → Means text one → Means text other → profile_faults one ≡ profile_faults other
faults-same text one other a b = ap profile_faults (same-members text one other a b)

-- A key at fault.
first-key : (elf text path : List ℕ) → Fits (given elf (Some text)) → Tells text (config_fault.Key path) →
    IsFirstFault (given elf (Some text)) (at_key (Config config.Key) path)
first-key elf text path fits first =
    let files = given elf (Some text) in
    first-of rank IsLess (FaultOfLength files ∷ FaultOfText files ∷ []) (FaultOfKeys files) _ (Config config.Key) (Key path)
    (free-length files fits, (free-text files (λ none. none first.members first.means), tt)) (after-keys files)
    (first-path (Config config.Key) path (IsKeyFault files.config)
    (record { members = first.members; means = first.means; here = first.first.here })
    (λ other less fault.
    no-earlier is_before (profile_faults first.members) (profile_faults fault.members) (key_fault path) (key_fault other)
    (faults-same text fault.members first.members fault.means first.means) first.first.first fault.here less))

-- A value at fault.
first-range : (elf text path : List ℕ) → Fits (given elf (Some text)) → Tells text (config_fault.Range path) →
    IsFirstFault (given elf (Some text)) (at_key (Config config.Range) path)
first-range elf text path fits first =
    let files = given elf (Some text) in
    first-of rank IsLess (FaultOfLength files ∷ FaultOfText files ∷ FaultOfKeys files ∷ []) (FaultOfValues files) _
    (Config config.Range) (Key path) (
      free-length files fits,
      (
        free-text files (λ none. none first.members first.means),
        (
          free-keys files (λ other fault.
              no-earlier is_before (profile_faults first.members) (profile_faults fault.members) (range_fault path) (key_fault other)
              (faults-same text fault.members first.members fault.means first.means) first.first.first fault.here refl),
          tt,
        ),
      ),
    )
    (after-values files)
    (first-path (Config config.Range) path (IsRangeFault files.config)
    (record { members = first.members; means = first.means; here = first.first.here })
    (λ other less fault.
    no-earlier is_before (profile_faults first.members) (profile_faults fault.members) (range_fault path) (range_fault other)
    (faults-same text fault.members first.members fault.means first.means) first.first.first fault.here less))

-- What the reader of profiles tells is the first fault of the files.
pub tells-config : (elf text : List ℕ) (fault : ConfigFault) → Fits (given elf (Some text)) → Tells text fault →
    TellsFault (given elf (Some text)) (refused_for fault)
tells-config elf text config_fault.Text fits told = first-text (given elf (Some text)) fits told
tells-config elf text (config_fault.Key path) fits told = first-key elf text path fits told
tells-config elf text (config_fault.Range path) fits told = first-range elf text path fits told
tells-config elf text config_fault.Memory fits told = tt
