-- A text that gives a profile has no fault, and the empty text gives the plain profile.
use Rattle.std.proofs.Common.{◌≡◌, ℕ, List, [], Some, refl, sym, ◌∙◌, ap, subst, arith, unwrap_or, Result, Ok, Err, IfOk, IfErr, MatchResult, OnOk}
use Rattle.toml.proofs.OnLiterals.{toml_on_literals}
use Rattle.toml.specs.Data.{Members, no_members}
use Rattle.toml.specs.Parse.{parse_document}
use Rattle.std.proofs.lemmas.Str.{IsUtf8-nil}
use Rattle.cache_config.specs.declared.fault.ConfigFault.{ConfigFault}
use Rattle.cache_config.specs.declared.fault.ConfigFault.TheVariants.{Text, Key, Range, Memory}
use Rattle.cache_config.specs.declared.fault.Fault.{Fault}
use Rattle.cache_config.specs.declared.fault.FaultKind.{FaultKind}
use Rattle.cache_config.specs.declared.profile.Profile.{Profile}
use Rattle.cache_config.specs.Defaults.{HasDefaults}
use Rattle.cache_config.specs.Faults.{IsFirst, profile_faults}
use Rattle.cache_config.specs.Profiles.{HasFirstFault, IsProfileOf, Means, ReadsAs, Tells}

nothing : parse_document [] ≡ Some no_members
unfolding toml_on_literals
nothing = refl

-- A text has one meaning.
one-meaning : (text : List ℕ) (ms ns : Members) → Means text ms → Means text ns → ns ≡ ms
one-meaning text ms ns a b = ap (λ o. unwrap_or o ms) (sym b.1 ∙ a.1)

-- The members of the empty text.
no-members : (ms : Members) → Means [] ms → ms ≡ no_members
no-members ms means = one-meaning [] no_members ms (IsUtf8-nil, nothing) means

pub empty-defaults : (p : Profile) → IsProfileOf [] p → HasDefaults p
empty-defaults p is = subst (λ ms. ReadsAs ms p) (no-members is.members is.means) is.reads

no-first : (fault : Fault) → IsFirst [] fault → ⊥
no-first fault first = let (k, low, same) = first.here in omega (arith, low)

no-fault : (text : List ℕ) (ms : Members) (what : FaultKind) (path : List ℕ) → Means text ms → profile_faults ms ≡ [] →
    HasFirstFault text what path → ⊥
no-fault text ms what path means clean has =
    let same = one-meaning text ms has.members means has.means in
    let none : profile_faults has.members ≡ [] = ap profile_faults same ∙ clean in
    let fault : Fault = record { kind = what; path = path } in
    no-first fault (subst (λ faults. IsFirst faults fault) none has.first)

-- A text without a fault is told no fault.
only-memory : (text : List ℕ) (ms : Members) → Means text ms → profile_faults ms ≡ [] → (e : ConfigFault) → Tells text e → e ≡ Memory
only-memory text ms means clean Text tells = absurd (tells ms means)
only-memory text ms means clean (Key path) tells = absurd (no-fault text ms _ path means clean tells)
only-memory text ms means clean (Range path) tells = absurd (no-fault text ms _ path means clean tells)
only-memory text ms means clean Memory tells = refl

pub empty-faults : (e : ConfigFault) → Tells [] e → e ≡ Memory
empty-faults = only-memory [] no_members (IsUtf8-nil, nothing) refl

pub result-clean : (text : List ℕ) (r : Result Profile ConfigFault) → IfOk r (IsProfileOf text) →
    OnOk r ((e : ConfigFault) → Tells text e → e ≡ Memory)
result-clean text (Ok p) is = only-memory text is.members is.means is.faultless
result-clean text (Err f) is = tt

pub empty-result : (text : List ℕ) (r : Result Profile ConfigFault) → IfOk r (IsProfileOf text) → IfErr r (Tells text) → text ≡ [] →
    MatchResult r HasDefaults (λ e. e ≡ Memory)
empty-result text (Ok p) is tells e = empty-defaults p (subst (λ t. IsProfileOf t p) e is)
empty-result text (Err f) is tells e = empty-faults f (subst (λ t. Tells t f) e tells)
