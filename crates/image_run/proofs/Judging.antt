-- What the code sees of a unit that was done tells which rules it keeps.
use Rattle.std.proofs.Common.{◌≡◌, ℕ, inl, inr, Bool, List, [], ◌∷◌, ◌++◌, Option, Some, None, is_some, refl, ap, sym, subst, ◌∙◌}
use Rattle.elf_mips.specs.Segments.{code_at as image_code}
use Rattle.mips_decode.specs.Accesses.{data_site}
use Rattle.mips_decode.specs.Calls.{ReturnsToCaller}
use Rattle.mips_decode.specs.Records.{KeepsTargets}
use Rattle.mips_decode.specs.State.{State}
use Rattle.mips_decode.specs.Step.{Done, Stepped, value_step}
use Rattle.mips_decode.specs.Transfer.{Call, linking_of}
use Rattle.mips_decode.specs.Units.{RunUnit}
use Rattle.mips_decode.specs.declared.instr.Instr.{Instr}
use Rattle.net_model.specs.declared.unit.CodeUnit.{CodeUnit}
use Rattle.net_model.specs.declared.unit.Content.TheVariants.{Unit as Stands}
use Rattle.net_model.specs.Contexts.{IsContextOf}
use Rattle.net_model.specs.Targets.{targets_at, unit_at}
use Rattle.image_run.specs.declared.course.Program.{Program}
use Rattle.image_run.specs.declared.follow.Seen.{Seen}
use Rattle.image_run.specs.declared.report.BrokenKind.{BrokenKind}
use Rattle.image_run.specs.declared.report.BrokenKind.TheVariants as broken
use Rattle.image_run.specs.declared.report.Verdict.TheVariants.{Broken}
use Rattle.image_run.specs.declared.spots.Spot.{Spot}
use Rattle.image_run.specs.Course.{GoesRecorded, IsJudged, KeepsRules, StaysInRanges}
use Rattle.image_run.specs.Links.{kind_by}
use Rattle.image_run.specs.Ranges.{KeepsRange, ranges_at}
use Rattle.image_run.specs.Road.{IsSpotOf, site_by, unit_instrs}
use Rattle.image_run.specs.Verdicts.{Breaks, KeepLoops, instructions_of}
use Rattle.image_run.proofs.Doing.{Did, IsDone, plain-slot, step-did}
use Rattle.image_run.proofs.Linking.{link-law}
use Rattle.image_run.proofs.Rules.{WasDone, callers-kept, keeps-callers, keeps-range, keeps-targets, range-kept, targets-kept}

site-data : (address : ℕ) (instr : Instr) (slot : Option Instr) → site_by (is_some slot) address ≡ data_site address (unit_instrs instr slot)
site-data address instr None = refl
site-data address instr (Some slot) = refl

did-by : (unit : CodeUnit) (s t : State) (step : Stepped) (done : Done) → WasDone step done t → Did unit s step → IsDone unit s done t
did-by unit s t step done (inl went) did = subst (Did unit s) went did
did-by unit s t step done (inr ended) did = subst (Did unit s) ended did

instructions-by : (t : State) (step : Stepped) (done : Done) → WasDone step done t → instructions_of step ≡ done.instructions
instructions-by t step done (inl went) = ap instructions_of went
instructions-by t step done (inr ended) = ap instructions_of ended

module _ (program : Program) (open_calls : List Call) (s t : State) (done : Done) (unit : CodeUnit) (spot : Spot) (context : ℕ)
    (stands : unit_at program.image.now s.pc ≡ Stands unit) (tells : IsSpotOf program.image.now unit s.pc spot)
    (was : WasDone (value_step (image_code program.image.now.segments) s) done t)
    (by : IsContextOf program.net.now.contexts open_calls context) where
  abbrev step : Stepped
  step = value_step (image_code program.image.now.segments) s

  -- What is to be seen.
  abbrev pub sight : Seen
  sight = record { address = s.pc; context = context; link = kind_by spot.link s.regs; next = t.pc; access = done.access }

  did : IsDone unit s done t
  did = did-by unit s t step done was (step-did program.image.now unit s stands)

  pub linked : linking_of (kind_by spot.link s.regs) s.pc t.pc ≡ done.link
  linked =
      ap (λ l. linking_of (kind_by l s.regs) s.pc t.pc) tells.link ∙ link-law unit.instr s t.pc did.leads ∙ sym did.link

  site : site_by spot.slot s.pc ≡ data_site s.pc (unit_instrs unit.instr unit.slot)
  site = ap (λ (b : Bool). site_by b s.pc) tells.slot ∙ site-data s.pc unit.instr unit.slot

  pub target-rule : GoesRecorded program.image.now s.pc spot.indirect t.pc → KeepsTargets (targets_at program.image.now s.pc) step
  target-rule goes =
      keeps-targets (targets_at program.image.now s.pc) step done t unit.instr unit.slot was did.instructions
      (plain-slot program.image.now unit s.pc stands) (λ needs. goes (tells.indirect ∙ needs))

  rule-target : KeepsTargets (targets_at program.image.now s.pc) step → GoesRecorded program.image.now s.pc spot.indirect t.pc
  rule-target keeps is =
      targets-kept (targets_at program.image.now s.pc) step done t unit.instr unit.slot was did.instructions keeps (sym tells.indirect ∙ is)

  pub range-rule : StaysInRanges program.image.now (site_by spot.slot s.pc) done.access → KeepsRange (ranges_at program.image.now) s.pc step
  range-rule stays =
      keeps-range program.image.now s.pc step done t (unit_instrs unit.instr unit.slot) done.access was did.instructions refl
      (subst (λ (a : ℕ). StaysInRanges program.image.now a done.access) site stays)

  rule-range : KeepsRange (ranges_at program.image.now) s.pc step → StaysInRanges program.image.now (site_by spot.slot s.pc) done.access
  rule-range keeps =
      subst (λ (a : ℕ). StaysInRanges program.image.now a done.access) (sym site)
      (range-kept program.image.now s.pc step done t (unit_instrs unit.instr unit.slot) done.access was did.instructions refl keeps)

  -- All rules are kept.
  pub rules-kept : KeepsRules program.image.now program.net.now spot sight →
      KeepsTargets (targets_at program.image.now s.pc) step × KeepsRange (ranges_at program.image.now) s.pc step × ReturnsToCaller open_calls step
  rules-kept kept = (
    target-rule kept.target,
    range-rule kept.range,
    keeps-callers program.net.now.contexts open_calls context s.pc (kind_by spot.link s.regs) step done t was by linked kept.back,
  )

  -- One is broken.
  pub rule-broken : (kind : BrokenKind) (address : ℕ) (units : List RunUnit) →
      KeepLoops program.image.now program.entry (units ++ record { at = record { calls = open_calls; address = s.pc }; step = step } ∷ []) →
      IsJudged program.image.now program.net.now spot sight (Broken kind address) →
      Breaks kind program.image.now program.entry units (record { at = record { calls = open_calls; address = s.pc }; step = step }) address
  rule-broken broken.Loop address units loops judged = absurd judged
  rule-broken broken.Target address units loops judged = record {
    loops = loops;
    breaks = λ keeps. judged.target (rule-target keeps);
    place = judged.place;
  }
  rule-broken broken.Range address units loops judged = record {
    loops = loops;
    targets = target-rule judged.target;
    breaks = λ keeps. judged.range (rule-range keeps);
    place = judged.place ∙ site ∙ ap (data_site s.pc) (sym (instructions-by t step done was ∙ did.instructions));
  }
  rule-broken broken.Return address units loops judged = record {
    loops = loops;
    targets = target-rule judged.target;
    ranges = range-rule judged.range;
    breaks = λ keeps. judged.back (callers-kept program.net.now.contexts open_calls context s.pc (kind_by spot.link s.regs) step done t was by linked keeps);
    place = judged.place;
  }
