-- Which faults an address can hold, and the first fault of the code and its loops.
use Rattle.std.proofs.Common.{◌≡◌, ℕ, ◌+◌, ◌<◌, ◌&&◌, Bool, true, false, cond, Some, None, refl, subst, arith}
use Rattle.elf_mips.specs.declared.image.Image.{Image}
use Rattle.elf_mips.specs.Segments.{code_at, is_writable_word}
use Rattle.loop_nest.specs.Programs.{TellsKindIn}
use Rattle.loop_nest.specs.declared.nest.Nests.{Nests}
use Rattle.mips_decode.specs.declared.instr.Instr.{Instr}
use Rattle.mips_decode.specs.Records.{needs_target}
use Rattle.mips_decode.specs.Step.{Fetched, Found, Missing, fetched}
use Rattle.net_model.specs.declared.unit.CodeKind.{CodeKind}
use Rattle.net_model.specs.declared.unit.CodeKind.TheVariants as code
use Rattle.net_model.specs.declared.unit.Content.{Content}
use Rattle.net_model.specs.declared.unit.Content.TheVariants.{Unit as Stands, Fault}
use Rattle.net_model.specs.Faults.{HasNoFault, IsFirstFault, Offends, faulty, recursive, rank as code_rank}
use Rattle.net_model.specs.Targets.{is_none, linked_content, links_elsewhere, targets_at}
use Rattle.net_model.specs.Units.{Word, Holds, Lacks, content_at, content_of, is_transfer, known, with_slot, word_at}
use Rattle.wcet_engine.specs.Layers.{IsFirst}
use Rattle.wcet_engine.specs.ProgramFaults.{IsCodeFault}
use Rattle.unit_graph.specs.declared.graph.Graphs.{Graphs}
use Rattle.call_contexts.specs.Programs.{IsProgram}
use Rattle.wcet_engine.proofs.ProgramLoops.{none-irreducible, none-unbounded}

-- Neither an address nor a call is a fault of the loops.
abbrev IsOfWord : CodeKind → Type 0
IsOfWord code.Irreducible = ⊥
IsOfWord code.NoBound = ⊥
IsOfWord kind = Unit {0}

lacks-by : (b : Bool) (found : Fetched) (kind : CodeKind) → cond b (Lacks code.WritableCode) (known found) ≡ Lacks kind → IsOfWord kind
lacks-by true found kind e = let same : code.WritableCode ≡ kind = cc in subst IsOfWord same tt
lacks-by false (Found instr) kind e = absurd cc
lacks-by false (Missing why) kind e = let same : code.UnknownWord ≡ kind = cc in subst IsOfWord same tt

lacks-kind : (image : Image) (address : ℕ) (kind : CodeKind) → word_at image address ≡ Lacks kind → IsOfWord kind
lacks-kind image address kind e = lacks-by (is_writable_word image.segments address) (fetched (code_at image.segments) address) kind e

slot-by : (b : Bool) (instr slot : Instr) (address place : ℕ) (kind : CodeKind) →
    cond b (Fault code.TransferInSlot address) (Stands (record { instr = instr; slot = Some slot })) ≡ Fault kind place → IsOfWord kind
slot-by true instr slot address place kind e = let same : code.TransferInSlot ≡ kind = cc in subst IsOfWord same tt
slot-by false instr slot address place kind e = absurd cc

slot-kind : (image : Image) (instr : Instr) (address place : ℕ) (kind : CodeKind) (word : Word) → word_at image address ≡ word →
    with_slot instr address word ≡ Fault kind place → IsOfWord kind
slot-kind image instr address place kind (Lacks lack) there e =
    let same : lack ≡ kind = cc in subst IsOfWord same (lacks-kind image address lack there)
slot-kind image instr address place kind (Holds slot) there e = slot-by (is_transfer slot) instr slot address place kind e

instr-by : (b : Bool) (image : Image) (instr : Instr) (address place : ℕ) (kind : CodeKind) →
    cond b (with_slot instr (address + 4) (word_at image (address + 4))) (Stands (record { instr = instr; slot = None })) ≡ Fault kind place →
    IsOfWord kind
instr-by true image instr address place kind e = slot-kind image instr (address + 4) place kind (word_at image (address + 4)) refl e
instr-by false image instr address place kind e = absurd cc

content-kind : (image : Image) (address place : ℕ) (kind : CodeKind) (word : Word) → word_at image address ≡ word →
    content_of image address word ≡ Fault kind place → IsOfWord kind
content-kind image address place kind (Lacks lack) there e =
    let same : lack ≡ kind = cc in subst IsOfWord same (lacks-kind image address lack there)
content-kind image address place kind (Holds instr) there e = instr-by (is_transfer instr) image instr address place kind e

linked-kind : (image : Image) (address place : ℕ) (kind : CodeKind) (content : Content) → content_at image address ≡ content →
    linked_content image address content ≡ Fault kind place → IsOfWord kind
linked-kind image address place kind (Fault other spot) there e =
    let same : other ≡ kind = cc in subst IsOfWord same (content-kind image address spot other (word_at image address) refl there)
linked-kind image address place kind (Stands unit) there e =
    by_tests (needs_target unit.instr && is_none (targets_at image address)) (links_elsewhere unit.instr) e where
      by_tests : (b c : Bool) →
          cond b (Fault code.UnknownTarget address) (cond c (Fault code.LinkRegister address) (Stands unit)) ≡ Fault kind place → IsOfWord kind
      by_tests true c e = let same : code.UnknownTarget ≡ kind = cc in subst IsOfWord same tt
      by_tests false true e = let same : code.LinkRegister ≡ kind = cc in subst IsOfWord same tt
      by_tests false false e = absurd cc

offence-kind : (image : Image) (entry : ℕ) (kind : CodeKind) (place : ℕ) → Offends image entry kind place → IsOfWord kind
offence-kind image entry _ _ (faulty kind place address reached e) = linked-kind image address place kind (content_at image address) refl e
offence-kind image entry _ _ (recursive function is) = tt

word-rank : (kind : CodeKind) → IsOfWord kind → code_rank kind < code_rank code.Irreducible
word-rank code.WritableCode is = omega arith
word-rank code.UnknownWord is = omega arith
word-rank code.TransferInSlot is = omega arith
word-rank code.UnknownTarget is = omega arith
word-rank code.LinkRegister is = omega arith
word-rank code.Recursion is = omega arith
word-rank code.Irreducible is = absurd is
word-rank code.NoBound is = absurd is

-- Faults of addresses and calls are faults of the code, and those of lower ranks are such.
offence-fault : (image : Image) (entry : ℕ) (kind : CodeKind) (place : ℕ) → Offends image entry kind place → IsCodeFault kind image entry place
offence-fault image entry code.WritableCode place offends = offends
offence-fault image entry code.UnknownWord place offends = offends
offence-fault image entry code.TransferInSlot place offends = offends
offence-fault image entry code.UnknownTarget place offends = offends
offence-fault image entry code.LinkRegister place offends = offends
offence-fault image entry code.Recursion place offends = offends
offence-fault image entry code.Irreducible place offends = absurd (offence-kind image entry code.Irreducible place offends)
offence-fault image entry code.NoBound place offends = absurd (offence-kind image entry code.NoBound place offends)

fault-offence : (image : Image) (entry : ℕ) (kind : CodeKind) (place : ℕ) → code_rank kind < code_rank code.Irreducible → IsCodeFault kind image entry place → Offends image entry kind place
fault-offence image entry code.WritableCode place low fault = fault
fault-offence image entry code.UnknownWord place low fault = fault
fault-offence image entry code.TransferInSlot place low fault = fault
fault-offence image entry code.UnknownTarget place low fault = fault
fault-offence image entry code.LinkRegister place low fault = fault
fault-offence image entry code.Recursion place low fault = fault
fault-offence image entry code.Irreducible place low fault = absurd (omega (arith, low))
fault-offence image entry code.NoBound place low fault = absurd (omega (arith, low))

-- The first fault of an address or a call is the first one of the code and its loops.
abbrev pub IsFirstCodeFault : Image → ℕ → CodeKind → ℕ → Type 0
IsFirstCodeFault image entry = IsFirst code_rank ◌<◌ (λ kind place. IsCodeFault kind image entry place)

pub word-first : (image : Image) (entry : ℕ) (kind : CodeKind) (place : ℕ) → IsFirstFault image entry kind place →
    IsFirstCodeFault image entry kind place
word-first image entry kind place first =
    let low = word-rank kind (offence-kind image entry kind place first.offends) in
    record {
      offends = offence-fault image entry kind place first.offends;
      first = λ other spot less fault. first.first other spot less (fault-offence image entry other spot (omega (arith, less, low)) fault);
      least = λ lesser less fault. first.least lesser less (fault-offence image entry kind lesser low fault);
    }

-- The first fault of the loops, where there is none of these.
pub loop-first : (image : Image) (entry : ℕ) (kind : CodeKind) (place : ℕ) → HasNoFault image entry → TellsKindIn image entry kind place →
    IsFirstCodeFault image entry kind place
loop-first image entry code.Irreducible place faultless told = record {
  offends = told.here;
  first = λ other spot less fault. faultless other spot (fault-offence image entry other spot less fault);
  least = told.least;
}
loop-first image entry code.NoBound place faultless told = record {
  offends = told.here;
  first = λ other spot less fault. earlier other spot less fault;
  least = told.least;
} where
  earlier : (other : CodeKind) (spot : ℕ) → code_rank other < code_rank code.NoBound → IsCodeFault other image entry spot → ⊥
  earlier code.Irreducible spot less fault = told.accepted spot fault
  earlier code.NoBound spot less fault = absurd (omega (arith, less))
  earlier code.WritableCode spot less fault = faultless code.WritableCode spot fault
  earlier code.UnknownWord spot less fault = faultless code.UnknownWord spot fault
  earlier code.TransferInSlot spot less fault = faultless code.TransferInSlot spot fault
  earlier code.UnknownTarget spot less fault = faultless code.UnknownTarget spot fault
  earlier code.LinkRegister spot less fault = faultless code.LinkRegister spot fault
  earlier code.Recursion spot less fault = faultless code.Recursion spot fault
loop-first image entry code.WritableCode place faultless told = absurd told
loop-first image entry code.UnknownWord place faultless told = absurd told
loop-first image entry code.TransferInSlot place faultless told = absurd told
loop-first image entry code.UnknownTarget place faultless told = absurd told
loop-first image entry code.LinkRegister place faultless told = absurd told
loop-first image entry code.Recursion place faultless told = absurd told

-- Code without a fault whose loops are known has none of its kinds.
pub code-faultless : (image : Image) (entry : ℕ) (graphs : Graphs) (nests : Nests) → IsProgram image entry graphs nests →
    (kind : CodeKind) (place : ℕ) → IsCodeFault kind image entry place → ⊥
code-faultless image entry graphs nests are code.Irreducible place fault = none-irreducible image entry graphs nests are place fault
code-faultless image entry graphs nests are code.NoBound place fault = none-unbounded image entry graphs nests are place fault
code-faultless image entry graphs nests are code.WritableCode place fault = are.faultless code.WritableCode place fault
code-faultless image entry graphs nests are code.UnknownWord place fault = are.faultless code.UnknownWord place fault
code-faultless image entry graphs nests are code.TransferInSlot place fault = are.faultless code.TransferInSlot place fault
code-faultless image entry graphs nests are code.UnknownTarget place fault = are.faultless code.UnknownTarget place fault
code-faultless image entry graphs nests are code.LinkRegister place fault = are.faultless code.LinkRegister place fault
code-faultless image entry graphs nests are code.Recursion place fault = are.faultless code.Recursion place fault
