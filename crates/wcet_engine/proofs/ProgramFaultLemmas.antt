-- The faults that the stages of an analysis find are the faults of the program.
use Rattle.std.proofs.Common.{◌≡◌, ℕ, ◌<◌, inl, inr, [], ◌∷◌, sym, subst, arith}
use Rattle.cache_config.specs.declared.profile.Profile.{Profile}
use Rattle.call_contexts.specs.Programs.{HasNoReturn}
use Rattle.elf_mips.specs.declared.image.Image.{Image}
use Rattle.loop_nest.specs.Programs.{TellsFault as TellsLoops}
use Rattle.net_model.specs.declared.unit.CodeKind.{CodeKind}
use Rattle.net_model.specs.Faults.{HasNoFault, rank as code_rank}
use Rattle.unit_graph.specs.Graphs.{TellsFault as TellsWords}
use Rattle.unit_graph.specs.declared.fault.CodeFault.{CodeFault}
use Rattle.unit_graph.specs.declared.fault.CodeFault.TheVariants.{Bad, Memory as Wanting}
use Rattle.wcet_engine.specs.declared.analysis.Refused.{Refused}
use Rattle.wcet_engine.specs.declared.analysis.Refused.TheVariants.{Fault, Memory}
use Rattle.wcet_engine.specs.declared.refusal.RefusalKind.{RefusalKind}
use Rattle.wcet_engine.specs.declared.refusal.RefusalKind.TheVariants.{Unbuilt, Code, NeverReturns, TooManyUnits, BoundTooLarge}
use Rattle.wcet_engine.specs.declared.refusal.Refusal.{Refusal}
use Rattle.wcet_engine.specs.ProgramFaults.{FaultOfBound, FaultOfCode, FaultOfReturn, FaultOfSize, IsCodeFault, IsFirstFaultIn, IsTooLarge, IsTooMany, OffendsIn, TellsFaultIn, program_layers, refused_by}
use Rattle.wcet_engine.specs.Refusals.{at_number, rank}
use Rattle.wcet_engine.specs.Stages.{TellsNoNet, TellsTooLarge}
use Rattle.wcet_engine.proofs.CodeKinds.{IsFirstCodeFault, loop-first, word-first}
use Rattle.wcet_engine.proofs.LayerLaws.{ComeAfter, IsFree, after-nested, after-next, after-none, first-at, first-nested, first-of, none-of}

-- The kinds of the program come one after the other.
after-size : (image : Image) (profile : Profile) (entry : ℕ) → ComeAfter rank TooManyUnits (FaultOfBound image profile entry ∷ [])
after-size image profile entry = after-next rank TooManyUnits BoundTooLarge _ _ (omega arith) (after-none rank BoundTooLarge)

after-return : (image : Image) (profile : Profile) (entry : ℕ) →
    ComeAfter rank NeverReturns (FaultOfSize image entry ∷ FaultOfBound image profile entry ∷ [])
after-return image profile entry = after-next rank NeverReturns TooManyUnits _ _ (omega arith) (after-size image profile entry)

after-code : (image : Image) (profile : Profile) (entry : ℕ) (kind : RefusalKind) → rank kind < rank NeverReturns →
    ComeAfter rank kind (FaultOfReturn image entry ∷ FaultOfSize image entry ∷ FaultOfBound image profile entry ∷ [])
after-code image profile entry kind earlier = after-next rank kind NeverReturns _ _ earlier (after-return image profile entry)

code-early : (kind : CodeKind) → rank (Code kind) < rank NeverReturns
code-early kind = grind arith

code-late : (kind : CodeKind) → rank Unbuilt < rank (Code kind)
code-late kind = grind arith

pub after-unbuilt : (image : Image) (profile : Profile) (entry : ℕ) → ComeAfter rank Unbuilt (program_layers image profile entry)
after-unbuilt image profile entry =
    after-nested rank Unbuilt Code _ _ code-late (after-code image profile entry Unbuilt (omega arith))

-- Layers without a fault.
abbrev HasNoCodeFault : Image → ℕ → Type 0
HasNoCodeFault image entry = (kind : CodeKind) (place : ℕ) → IsCodeFault kind image entry place → ⊥

free-code : (image : Image) (entry : ℕ) → HasNoCodeFault image entry → IsFree (FaultOfCode image entry)
free-code image entry faultless = λ kind place fault. faultless fault.inner place fault.offends

free-return : (image : Image) (entry : ℕ) → (HasNoReturn image entry → ⊥) → IsFree (FaultOfReturn image entry)
free-return image entry returning = λ kind place fault. returning fault.offends.1

free-size : (image : Image) (entry : ℕ) → (IsTooMany image entry → ⊥) → IsFree (FaultOfSize image entry)
free-size image entry few = λ kind place fault. few fault.offends.1

free-bound : (image : Image) (profile : Profile) (entry : ℕ) → (IsTooLarge image profile entry → ⊥) → IsFree (FaultOfBound image profile entry)
free-bound image profile entry fitting = λ kind place fault. fitting fault.offends.1

pub free-program : (image : Image) (profile : Profile) (entry : ℕ) → HasNoCodeFault image entry → (HasNoReturn image entry → ⊥) →
    (IsTooMany image entry → ⊥) → (IsTooLarge image profile entry → ⊥) → IsFree (OffendsIn image profile entry)
free-program image profile entry faultless returning few fitting =
    none-of (program_layers image profile entry) (
      free-code image entry faultless,
      (free-return image entry returning, (free-size image entry few, (free-bound image profile entry fitting, tt))),
    )

-- The first fault of the code is the program's.
code-alike : (one other : CodeKind) → Code one ≡ Code other → one ≡ other
code-alike one other same = cc

code-rising : (one other : CodeKind) → rank (Code one) < rank (Code other) → code_rank one < code_rank other
code-rising one other less = grind (arith, less)

first-code : (image : Image) (profile : Profile) (entry : ℕ) (kind : CodeKind) (place : ℕ) → IsFirstCodeFault image entry kind place →
    IsFirstFaultIn image profile entry (Code kind) place
first-code image profile entry kind place is =
    first-of rank ◌<◌ [] (FaultOfCode image entry) _ (Code kind) place tt (after-code image profile entry (Code kind) (code-early kind))
    (first-nested Code rank code_rank ◌<◌ (λ kind place. IsCodeFault kind image entry place) kind place code-alike code-rising is)

pub tells-words : (image : Image) (profile : Profile) (entry : ℕ) (fault : CodeFault) → TellsWords image entry fault →
    TellsFaultIn image profile entry (refused_by fault)
tells-words image profile entry (Bad kind address) told =
    first-code image profile entry kind address (word-first image entry kind address told)
tells-words image profile entry Wanting told = tt

pub tells-loops : (image : Image) (profile : Profile) (entry : ℕ) (fault : CodeFault) → HasNoFault image entry →
    TellsLoops image entry fault → TellsFaultIn image profile entry (refused_by fault)
tells-loops image profile entry (Bad kind address) faultless told =
    first-code image profile entry kind address (loop-first image entry kind address faultless told)
tells-loops image profile entry Wanting faultless told = tt

-- A fault at the entry: the function never returns, there are too many contexts or places, or the crude bound is too
-- large.
at-entry : (image : Image) (profile : Profile) (entry : ℕ) (kind : RefusalKind) (refusal : Refusal) → refusal ≡ at_number kind entry →
    IsFirstFaultIn image profile entry kind entry → TellsFaultIn image profile entry (Fault refusal)
at-entry image profile entry kind refusal same first =
    subst (λ (r : Refusal). TellsFaultIn image profile entry (Fault r)) (sym same) first

pub tells-net : (image : Image) (profile : Profile) (entry : ℕ) (told : Refused) → HasNoCodeFault image entry → TellsNoNet image entry told →
    TellsFaultIn image profile entry told
tells-net image profile entry (Fault refusal) faultless (inl told) =
    at-entry image profile entry NeverReturns refusal told.0
    (first-of rank ◌<◌ (FaultOfCode image entry ∷ []) (FaultOfReturn image entry) _ NeverReturns entry
    (free-code image entry faultless, tt) (after-return image profile entry)
    (first-at rank NeverReturns entry (HasNoReturn image entry) told.1))
tells-net image profile entry (Fault refusal) faultless (inr told) =
    at-entry image profile entry TooManyUnits refusal told.0
    (first-of rank ◌<◌ (FaultOfCode image entry ∷ FaultOfReturn image entry ∷ []) (FaultOfSize image entry) _ TooManyUnits entry
    (free-code image entry faultless, (free-return image entry (λ none. none told.1), tt)) (after-size image profile entry)
    (first-at rank TooManyUnits entry (IsTooMany image entry) told.2))
tells-net image profile entry Memory faultless told = tt

pub tells-large : (image : Image) (profile : Profile) (entry : ℕ) (told : Refused) → HasNoCodeFault image entry → (HasNoReturn image entry → ⊥) →
    (IsTooMany image entry → ⊥) → TellsTooLarge image profile entry told → TellsFaultIn image profile entry told
tells-large image profile entry (Fault refusal) faultless returning few told =
    at-entry image profile entry BoundTooLarge refusal told.0
    (first-of rank ◌<◌ (FaultOfCode image entry ∷ FaultOfReturn image entry ∷ FaultOfSize image entry ∷ []) (FaultOfBound image profile entry) []
    BoundTooLarge entry (free-code image entry faultless, (free-return image entry returning, (free-size image entry few, tt)))
    (after-none rank BoundTooLarge) (first-at rank BoundTooLarge entry (IsTooLarge image profile entry) told.1))
tells-large image profile entry Memory faultless returning few told = tt
