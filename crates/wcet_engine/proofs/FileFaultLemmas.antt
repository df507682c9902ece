-- The first fault of a file under a profile: what its reader, its symbols, its clash and its program tell.
use Rattle.std.proofs.Common.{◌≡◌, ℕ, ◌<◌, ◌≤◌, inl, inr, List, [], ◌∷◌, All, Contains, Option, Some, None, Result, Ok, Err, IfOk, IfErr, refl, sym, ap, subst, ◌∙◌, arith}
use Rattle.std.proofs.lemmas.Option.{none-some, same_Some}
use Rattle.cache_config.specs.declared.profile.Profile.{Profile}
use Rattle.elf_mips.specs.declared.fault.ElfKind.{ElfKind}
use Rattle.elf_mips.specs.declared.fault.ElfFault.{ElfFault}
use Rattle.elf_mips.specs.declared.fault.ElfFault.TheVariants as elf_fault
use Rattle.elf_mips.specs.declared.image.Image.{Image}
use Rattle.elf_mips.specs.Faults.{IsClean, Tells, offenders, order}
use Rattle.elf_mips.specs.Faults.{IsFirstFault as IsFirstElfFault}
use Rattle.elf_mips.specs.Image.{IsImage}
use Rattle.wcet_engine.specs.declared.analysis.Analysis.{Analysis}
use Rattle.wcet_engine.specs.declared.analysis.Refused.{Refused}
use Rattle.wcet_engine.specs.declared.analysis.Refused.TheVariants.{Fault, Memory}
use Rattle.wcet_engine.specs.declared.refusal.ConfigKind.TheVariants as config
use Rattle.wcet_engine.specs.declared.refusal.RefusalKind.{RefusalKind}
use Rattle.wcet_engine.specs.declared.refusal.RefusalKind.TheVariants.{Config, Elf, NoSymbol, RegionClash, Unbuilt}
use Rattle.wcet_engine.specs.declared.refusal.Spot.{Spot}
use Rattle.wcet_engine.specs.declared.refusal.Spot.TheVariants.{Number, Key}
use Rattle.mips_machine.specs.Clash.{IsClash, IsLeast}
use Rattle.wcet_engine.specs.FileFaults.{FaultOfCaches, FaultOfEntry, FaultOfMemory, FaultOfProgram, FaultOfTables, IsAnalysisFor, IsFirstFaultOf, IsUnbuilt, OfImage, OffendsOf, TellsFaultOf, entry_by, entry_of, file_layers, refused_of}
use Rattle.wcet_engine.specs.Layers.{IsFirst}
use Rattle.wcet_engine.specs.ProgramFaults.{IsAnalysisOf, IsFirstFaultIn, OffendsIn, TellsFaultIn}
use Rattle.wcet_engine.specs.Refusals.{rank, says_at}
use Rattle.wcet_engine.proofs.LayerLaws.{AreFree, ComeAfter, IsFree, after-more, after-nested, after-next, after-none, first-at, first-least, first-nested, first-of, first-same, none-of}
use Rattle.wcet_engine.proofs.ProgramFaultLemmas.{after-unbuilt}
use Rattle.wcet_engine.proofs.SameCosts.{HaveSameCosts}
use Rattle.wcet_engine.proofs.SameFiles.{IsSameProfile, clash-same, same-image}
use Rattle.wcet_engine.proofs.SameImage.{IsSame, program-same}

-- An empty list contains nothing.
nothing : (places : List ℕ) (place : ℕ) → places ≡ [] → Contains places place → ⊥
nothing [] place none here = absurd (omega (arith, here.1))
nothing (other ∷ places) place none here = cc

-- No place of a list is below its least one.
none_below : (places : List ℕ) (least place : ℕ) → All (λ other. least ≤ other) places → place < least →
    Contains places place → ⊥
none_below places least place all below here =
    let above = all here.0 place here.1 in absurd (omega (arith, above, here.2, below))

-- The kinds of the file come one after the other.
after-caches : (file : List ℕ) (profile : Profile) → ComeAfter rank Unbuilt (FaultOfProgram file profile ∷ [])
after-caches file profile =
    after-more rank Unbuilt (FaultOfProgram file profile) []
    (λ other spot of. (after-unbuilt of.image profile of.entry).later other spot of.says) (after-none rank Unbuilt)

after-memory : (file : List ℕ) (profile : Profile) → ComeAfter rank RegionClash (FaultOfCaches profile ∷ FaultOfProgram file profile ∷ [])
after-memory file profile = after-next rank RegionClash Unbuilt _ _ (omega arith) (after-caches file profile)

after-entry : (file : List ℕ) (profile : Profile) →
    ComeAfter rank NoSymbol (FaultOfMemory file profile ∷ FaultOfCaches profile ∷ FaultOfProgram file profile ∷ [])
after-entry file profile = after-next rank NoSymbol RegionClash _ _ (omega arith) (after-memory file profile)

after-tables : (file : List ℕ) (profile : Profile) (kind : RefusalKind) → rank kind < rank NoSymbol →
    ComeAfter rank kind (FaultOfEntry file profile ∷ FaultOfMemory file profile ∷ FaultOfCaches profile ∷ FaultOfProgram file profile ∷ [])
after-tables file profile kind earlier = after-next rank kind NoSymbol _ _ earlier (after-entry file profile)

elf-early : (kind : ElfKind) → rank (Elf kind) < rank NoSymbol
elf-early kind = grind arith

elf-late : (kind : ElfKind) → rank (Config config.Range) < rank (Elf kind)
elf-late kind = grind arith

pub after-config : (file : List ℕ) (profile : Profile) → ComeAfter rank (Config config.Range) (file_layers file profile)
after-config file profile =
    after-nested rank (Config config.Range) Elf _ _ elf-late (after-tables file profile (Config config.Range) (omega arith))

-- The first fault that the reader finds.
elf-alike : (one other : ElfKind) → Elf one ≡ Elf other → one ≡ other
elf-alike one other same = cc

elf-rising : (one other : ElfKind) → rank (Elf one) < rank (Elf other) → order one < order other
elf-rising one other less = grind (arith, less)

first-elf : (file : List ℕ) (kind : ElfKind) (place : ℕ) → IsFirstElfFault file kind place →
    IsFirst order ◌<◌ (λ own spot. Contains (offenders own file) spot) kind place
first-elf file kind place fault = record {
  offends = fault.here;
  first = λ other spot earlier here. nothing (offenders other file) spot (fault.first other earlier) here;
  least = λ lesser less here. none_below (offenders kind file) place lesser fault.least less here;
}

pub tells-bad : (file : List ℕ) (profile : Profile) (fault : ElfFault) → Tells file fault → TellsFaultOf file profile (refused_of fault)
tells-bad file profile (elf_fault.Bad kind place) tells =
    first-of rank ◌<◌ [] (FaultOfTables file) _ (Elf kind) place tt
    (after-tables file profile (Elf kind) (elf-early kind))
    (first-nested Elf rank order ◌<◌ (λ own spot. Contains (offenders own file) spot) kind place elf-alike elf-rising
    (first-elf file kind place tells))
tells-bad file profile elf_fault.Memory tells = tt

-- A file that its reader found no fault in, and its image.
pub record IsReadAs (file : List ℕ) (image : Image) : Type 0 where
  pub clean : IsClean file
  pub read : IsImage file image

-- One profile has the same costs as itself.
costs-alike : (profile : Profile) → HaveSameCosts profile profile
costs-alike profile = record { memory = refl; store = refl; levels = λ side. refl; classes = λ class. refl }

-- What is said of the file's image is said of this one, and so is what is said of its program.
clash-in : (file : List ℕ) (profile : Profile) (image : Image) (place : ℕ) → IsReadAs file image →
    OfImage file (λ other. IsClash other profile place) → IsClash image profile place
clash-in file profile image place is of =
    clash-same of.image image profile profile place (same-image file of.image image of.read is.read).program refl of.says

symbol-in : (file : List ℕ) (profile : Profile) (image : Image) → IsReadAs file image →
    OfImage file (λ other. entry_of other profile ≡ None) → entry_of image profile ≡ None
symbol-in file profile image is of = sym ((same-image file of.image image of.read is.read).entries profile.entry) ∙ of.says

program-in : (file : List ℕ) (profile : Profile) (image : Image) (entry : ℕ) (kind : RefusalKind) (place : ℕ) → IsReadAs file image →
    entry_of image profile ≡ Some entry → FaultOfProgram file profile kind place → OffendsIn image profile entry kind place
program-in file profile image entry kind place is enters of =
    let same = same-image file of.image image of.read is.read in
    let at : of.entry ≡ entry = same_Some of.entry entry (sym of.enters ∙ same.entries profile.entry ∙ enters) in
    subst (λ (e : ℕ). OffendsIn image profile e kind place) at
    (program-same of.image image profile profile of.entry kind place same.program (costs-alike profile) of.says)

-- Layers without a fault.
free-tables : (file : List ℕ) → IsClean file → IsFree (FaultOfTables file)
free-tables file clean = λ kind place fault. nothing (offenders fault.inner file) place (clean fault.inner) fault.offends

free-entry : (file : List ℕ) (profile : Profile) (image : Image) (entry : ℕ) → IsReadAs file image → entry_of image profile ≡ Some entry →
    IsFree (FaultOfEntry file profile)
free-entry file profile image entry is enters = λ kind place fault.
    none-some entry (sym (symbol-in file profile image is fault.offends.1) ∙ enters)

free-memory : (file : List ℕ) (profile : Profile) (image : Image) → IsReadAs file image → ((place : ℕ) → IsClash image profile place → ⊥) →
    IsFree (FaultOfMemory file profile)
free-memory file profile image is apart = λ kind place fault. apart place (clash-in file profile image place is fault.offends)

free-caches : (profile : Profile) → (IsUnbuilt profile → ⊥) → IsFree (FaultOfCaches profile)
free-caches profile built = λ kind place fault. built fault.offends.1

-- No symbol has the name of the entry.
pub first-symbol : (file : List ℕ) (profile : Profile) (image : Image) → IsReadAs file image → entry_of image profile ≡ None →
    IsFirstFaultOf file profile NoSymbol 0
first-symbol file profile image is none =
    first-of rank ◌<◌ (FaultOfTables file ∷ []) (FaultOfEntry file profile) _ NoSymbol 0
    (free-tables file is.clean, tt) (after-entry file profile)
    (first-at rank NoSymbol 0 (OfImage file (λ other. entry_of other profile ≡ None)) (record { image = image; read = is.read; says = none }))

-- A search for an entry that finds none.
pub no-entry : (found : Option ℕ) → ((entry : ℕ) → found ≡ Some entry → ⊥) → found ≡ None
no-entry None none = refl
no-entry (Some entry) none = absurd (none entry refl)

-- The least common address.
pub first-clash : (file : List ℕ) (profile : Profile) (image : Image) (entry place : ℕ) → IsReadAs file image →
    entry_of image profile ≡ Some entry → IsLeast (IsClash image profile) place → IsFirstFaultOf file profile RegionClash place
first-clash file profile image entry place is enters least =
    first-of rank ◌<◌ (FaultOfTables file ∷ FaultOfEntry file profile ∷ []) (FaultOfMemory file profile) _ RegionClash place
    (free-tables file is.clean, (free-entry file profile image entry is enters, tt)) (after-memory file profile)
    (first-least rank ◌<◌ (λ spot. OfImage file (λ other. IsClash other profile spot)) RegionClash place
    (record { image = image; read = is.read; says = least.says })
    (λ lesser less of. least.least lesser less (clash-in file profile image lesser is of)))

-- The profile has caches.
pub first-unbuilt : (file : List ℕ) (profile : Profile) (image : Image) (entry : ℕ) → IsReadAs file image → entry_of image profile ≡ Some entry →
    ((place : ℕ) → IsClash image profile place → ⊥) → IsUnbuilt profile → IsFirstFaultOf file profile Unbuilt 0
first-unbuilt file profile image entry is enters apart unbuilt =
    first-of rank ◌<◌ (FaultOfTables file ∷ FaultOfEntry file profile ∷ FaultOfMemory file profile ∷ []) (FaultOfCaches profile) _ Unbuilt 0
    (free-tables file is.clean, (free-entry file profile image entry is enters, (free-memory file profile image is apart, tt)))
    (after-caches file profile) (first-at rank Unbuilt 0 (IsUnbuilt profile) unbuilt)

-- A file whose program is looked at.
pub record IsTaken (file : List ℕ) (profile : Profile) (image : Image) (entry : ℕ) : Type 0 where
  pub is : IsReadAs file image
  pub enters : entry_of image profile ≡ Some entry
  pub apart : (place : ℕ) → IsClash image profile place → ⊥
  pub built : IsUnbuilt profile → ⊥

-- Its faults are those of its program.
of-program : (file : List ℕ) (profile : Profile) (image : Image) (entry : ℕ) (kind : RefusalKind) (place : ℕ) → IsTaken file profile image entry →
    OffendsIn image profile entry kind place → FaultOfProgram file profile kind place
of-program file profile image entry kind place taken offends =
    record { image = image; read = taken.is.read; entry = entry; enters = taken.enters; says = offends }

free-before : (file : List ℕ) (profile : Profile) (image : Image) (entry : ℕ) → IsTaken file profile image entry →
    AreFree (FaultOfTables file ∷ FaultOfEntry file profile ∷ FaultOfMemory file profile ∷ FaultOfCaches profile ∷ [])
free-before file profile image entry taken = (
  free-tables file taken.is.clean,
  (
    free-entry file profile image entry taken.is taken.enters,
    (
      free-memory file profile image taken.is taken.apart,
      (free-caches profile taken.built, tt),
    ),
  ),
)

free-program : (file : List ℕ) (profile : Profile) (image : Image) (entry : ℕ) → IsTaken file profile image entry →
    IsFree (OffendsIn image profile entry) → IsFree (FaultOfProgram file profile)
free-program file profile image entry taken free = λ kind place of.
    free kind place (program-in file profile image entry kind place taken.is taken.enters of)

first-program : (file : List ℕ) (profile : Profile) (image : Image) (entry : ℕ) (kind : RefusalKind) (place : ℕ) → IsTaken file profile image entry →
    IsFirstFaultIn image profile entry kind place → IsFirstFaultOf file profile kind place
first-program file profile image entry kind place taken first =
    first-of rank ◌<◌ (FaultOfTables file ∷ FaultOfEntry file profile ∷ FaultOfMemory file profile ∷ FaultOfCaches profile ∷ [])
    (FaultOfProgram file profile) [] kind place (free-before file profile image entry taken) (after-none rank kind)
    (first-same rank ◌<◌ ◌<◌ (OffendsIn image profile entry) (FaultOfProgram file profile) (λ spot. spot) kind place
    (λ other spot offends. of-program file profile image entry other spot taken offends)
    (λ other spot of. (spot, refl, program-in file profile image entry other spot taken.is taken.enters of)) (λ one other less. less) first)

-- What is said of a number at a place is said of another one that follows from it.
pub says-so : (Says Other : ℕ → Type 0) (spot : Spot) → ((place : ℕ) → Says place → Other place) → says_at Says spot → says_at Other spot
says-so Says Other (Number place) follows says = follows place says
says-so Says Other (Key path) follows says = says

tells-program : (file : List ℕ) (profile : Profile) (image : Image) (entry : ℕ) (told : Refused) → IsTaken file profile image entry →
    TellsFaultIn image profile entry told → TellsFaultOf file profile told
tells-program file profile image entry (Fault refusal) taken told =
    says-so (IsFirstFaultIn image profile entry refusal.kind) (IsFirstFaultOf file profile refusal.kind) refusal.spot
    (λ place first. first-program file profile image entry refusal.kind place taken first) told
tells-program file profile image entry Memory taken told = tt

-- A file whose program has no fault has none.
is-analysis : (file : List ℕ) (profile : Profile) (image : Image) (entry : ℕ) (analysis : Analysis) → IsTaken file profile image entry →
    IsAnalysisOf image profile entry analysis → IsAnalysisFor file profile analysis
is-analysis file profile image entry analysis taken of = record {
  faultless = none-of (file_layers file profile) (
    free-tables file taken.is.clean,
    (
      free-entry file profile image entry taken.is taken.enters,
      (
        free-memory file profile image taken.is taken.apart,
        (free-caches profile taken.built, (free-program file profile image entry taken of.faultless, tt)),
      ),
    ),
  );
  program = record { image = image; read = taken.is.read; entry = entry; enters = taken.enters; says = of };
}

-- So the answer of the program is that of the file.
pub answers-refused : (file : List ℕ) (profile : Profile) (image : Image) (entry : ℕ) (result : Result Analysis Refused) →
    IsTaken file profile image entry → IfErr result (TellsFaultIn image profile entry) → IfErr result (TellsFaultOf file profile)
answers-refused file profile image entry (Ok analysis) taken told = told
answers-refused file profile image entry (Err refused) taken told = tells-program file profile image entry refused taken told

pub answers-analysed : (file : List ℕ) (profile : Profile) (image : Image) (entry : ℕ) (result : Result Analysis Refused) →
    IsTaken file profile image entry → IfOk result (IsAnalysisOf image profile entry) → IfOk result (IsAnalysisFor file profile)
answers-analysed file profile image entry (Ok analysis) taken told = is-analysis file profile image entry analysis taken told
answers-analysed file profile image entry (Err refused) taken told = told

-- What is said of a file under a profile holds under one that is the same so far.
entry-same : (image : Image) (profile other : Profile) → IsSameProfile profile other → entry_of image profile ≡ entry_of image other
entry-same image profile other same = ap (entry_by image) same.entry

image-alike : (image : Image) → IsSame image image
image-alike image = record { segments = refl; marks = refl }

pub file-same : (file : List ℕ) (profile other : Profile) (kind : RefusalKind) (place : ℕ) → IsSameProfile profile other →
    OffendsOf file profile kind place → OffendsOf file other kind place
file-same file profile other kind place same (inl fault) = inl fault
file-same file profile other kind place same (inr (inl fault)) =
    let of = fault.offends.1 in
    inr (inl (record {
      same = fault.same;
      offends = (
        fault.offends.0,
        record { image = of.image; read = of.read; says = sym (entry-same of.image profile other same) ∙ of.says },
      );
    }))
file-same file profile other kind place same (inr (inr (inl fault))) =
    let of = fault.offends in
    inr (inr (inl (record {
      same = fault.same;
      offends = record {
        image = of.image;
        read = of.read;
        says = clash-same of.image of.image profile other place (image-alike of.image) same.regions of.says;
      };
    })))
file-same file profile other kind place same (inr (inr (inr (inl fault)))) = inr (inr (inr (inl (record {
  same = fault.same;
  offends = (fault.offends.0, subst (λ (n : ℕ). 0 < n) same.caches fault.offends.1);
}))))
file-same file profile other kind place same (inr (inr (inr (inr (inl of))))) = inr (inr (inr (inr (inl (record {
  image = of.image;
  read = of.read;
  entry = of.entry;
  enters = sym (entry-same of.image profile other same) ∙ of.enters;
  says = program-same of.image of.image profile other of.entry kind place (image-alike of.image) same.costs of.says;
})))))
file-same file profile other kind place same (inr (inr (inr (inr (inr none))))) = absurd none
