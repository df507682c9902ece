-- The rules of one unit that was done, as the code sees it and as they are stated.
use Rattle.std.proofs.Common.{◌≡◌, ℕ, ◌+◌, ◌⊎◌, inl, inr, true, false, List, [], ◌∷◌, All, Contains, Option, Some, None, ap, sym, subst, ◌∙◌, arith}
use Rattle.std.specs.Prelude.{IfSome, slice_get}
use Rattle.std.proofs.lemmas.Option.{same_Some}
use Rattle.elf_mips.specs.declared.image.Image.{Image}
use Rattle.flow_net.specs.declared.net.Context.{Context}
use Rattle.mips_decode.specs.Accesses.{data_site}
use Rattle.mips_decode.specs.Calls.{GoesBack, ReturnsToCaller, caller_of, calls_after_link}
use Rattle.mips_decode.specs.Records.{GoToRecorded, KeepsTargets, needs_target}
use Rattle.mips_decode.specs.State.{State}
use Rattle.mips_decode.specs.Step.{Done, Stepped, Went, Returned}
use Rattle.mips_decode.specs.Transfer.{Call, Linking, Straight, Calls, Returns as BackLink, linking_of}
use Rattle.mips_decode.specs.declared.instr.Instr.{Instr}
use Rattle.mips_decode.specs.declared.instr.Instr.TheVariants.{Three, Shift, HiLo, MulDiv, Imm, Lui, Load, Store, Branch, Jump, JumpReg, JumpLink, Stop}
use Rattle.mips_decode.specs.declared.step.Touched.{Touched}
use Rattle.mips_decode.specs.declared.transfer.LinkKind.{LinkKind}
use Rattle.mips_decode.specs.declared.transfer.LinkKind.TheVariants as link
use Rattle.net_model.specs.Contexts.{AreContexts, IsContextOf, made_by, root}
use Rattle.net_model.specs.Units.{is_transfer}
use Rattle.image_run.specs.Course.{GoesBackFrom, IsBackFrom, StaysInRanges}
use Rattle.image_run.specs.Ranges.{KeepsRange, LiesIn, StaysWithin, ranges_at}
use Rattle.image_run.specs.Road.{IsContextBehind, slots_in, unit_instrs}
use Rattle.image_run.proofs.Doing.{HasPlainSlot}
use Rattle.image_run.proofs.Visiting.{context-one}

-- A unit was done: it went on, or its entry returned.
abbrev pub WasDone : Stepped → Done → State → Type 0
WasDone step done t = (step ≡ Went done t) ⊎ (step ≡ Returned done t)

-- ---- Targets.
plain-needs : (instr : Instr) → is_transfer instr ≡ false → needs_target instr ≡ true → ⊥
plain-needs (Three op rd rs rt) plain needs = cc
plain-needs (Shift op rd rt by) plain needs = cc
plain-needs (HiLo op number) plain needs = cc
plain-needs (MulDiv op rs rt) plain needs = cc
plain-needs (Imm op rt rs imm) plain needs = cc
plain-needs (Lui rt imm) plain needs = cc
plain-needs (Load op rt base offset) plain needs = cc
plain-needs (Store op rt base offset) plain needs = cc
plain-needs (Branch op rs rt offset) plain needs = cc
plain-needs (Jump linked index) plain needs = cc
plain-needs (JumpReg rs) plain needs = cc
plain-needs (JumpLink rd rs) plain needs = cc
plain-needs (Stop op code) plain needs = cc

slots-recorded : (targets : List ℕ) (slot : Option Instr) (next : ℕ) → HasPlainSlot slot → GoToRecorded targets (slots_in slot) next
slots-recorded targets None next plain = tt
slots-recorded targets (Some slot) next plain = (λ needs. absurd (plain-needs slot plain needs), tt)

done-targets : (targets : List ℕ) (step : Stepped) (done : Done) (t : State) → WasDone step done t →
    GoToRecorded targets done.instructions t.pc → KeepsTargets targets step
done-targets targets step done t (inl went) goes = subst (KeepsTargets targets) (sym went) goes
done-targets targets step done t (inr ended) goes = subst (KeepsTargets targets) (sym ended) goes

targets-done : (targets : List ℕ) (step : Stepped) (done : Done) (t : State) → WasDone step done t →
    KeepsTargets targets step → GoToRecorded targets done.instructions t.pc
targets-done targets step done t (inl went) keeps = subst (KeepsTargets targets) went keeps
targets-done targets step done t (inr ended) keeps = subst (KeepsTargets targets) ended keeps

pub keeps-targets : (targets : List ℕ) (step : Stepped) (done : Done) (t : State) (instr : Instr) (slot : Option Instr) → WasDone step done t →
    done.instructions ≡ unit_instrs instr slot → HasPlainSlot slot → (needs_target instr ≡ true → Contains targets t.pc) →
    KeepsTargets targets step
keeps-targets targets step done t instr slot was instructions plain goes =
    done-targets targets step done t was
    (subst (λ (list : List Instr). GoToRecorded targets list t.pc) (sym instructions) (goes, slots-recorded targets slot t.pc plain))

pub targets-kept : (targets : List ℕ) (step : Stepped) (done : Done) (t : State) (instr : Instr) (slot : Option Instr) → WasDone step done t →
    done.instructions ≡ unit_instrs instr slot → KeepsTargets targets step → needs_target instr ≡ true → Contains targets t.pc
targets-kept targets step done t instr slot was instructions keeps =
    (subst (λ (list : List Instr). GoToRecorded targets list t.pc) instructions (targets-done targets step done t was keeps)).0

-- ---- Ranges.
pub keeps-range : (image : Image) (address : ℕ) (step : Stepped) (done : Done) (t : State) (instrs : List Instr) (access : Option Touched) →
    WasDone step done t → done.instructions ≡ instrs → done.access ≡ access →
    StaysInRanges image (data_site address instrs) access → KeepsRange (ranges_at image) address step
keeps-range image address step done t instrs access was instructions same stays = by_step was where
  own : StaysWithin (ranges_at image) address done
  own =
      subst (λ (list : List Instr). IfSome done.access (λ (a : Touched). All (LiesIn a) (ranges_at image (data_site address list)))) (sym instructions)
      (subst (λ (o : Option Touched). IfSome o (λ (a : Touched). All (LiesIn a) (ranges_at image (data_site address instrs)))) (sym same) stays)

  by_step : WasDone step done t → KeepsRange (ranges_at image) address step
  by_step (inl went) = subst (KeepsRange (ranges_at image) address) (sym went) own
  by_step (inr ended) = subst (KeepsRange (ranges_at image) address) (sym ended) own

pub range-kept : (image : Image) (address : ℕ) (step : Stepped) (done : Done) (t : State) (instrs : List Instr) (access : Option Touched) →
    WasDone step done t → done.instructions ≡ instrs → done.access ≡ access → KeepsRange (ranges_at image) address step →
    StaysInRanges image (data_site address instrs) access
range-kept image address step done t instrs access was instructions same keeps =
    subst (λ (o : Option Touched). IfSome o (λ (a : Touched). All (LiesIn a) (ranges_at image (data_site address instrs)))) same
    (subst (λ (list : List Instr). IfSome done.access (λ (a : Touched). All (LiesIn a) (ranges_at image (data_site address list)))) instructions (by_step was))
  where
    by_step : WasDone step done t → StaysWithin (ranges_at image) address done
    by_step (inl went) = subst (KeepsRange (ranges_at image) address) went keeps
    by_step (inr ended) = subst (KeepsRange (ranges_at image) address) ended keeps

-- ---- Returns.
caller-back : (contexts : List Context) (open_calls : List Call) (context next : ℕ) → IsContextOf contexts open_calls context →
    IsBackFrom contexts context next → next ≡ caller_of open_calls
caller-back contexts [] context next by back_to = back_to.out by
caller-back contexts (call ∷ open_calls) context next by back_to =
    back_to.behind by.0 (made_by by.1.0 call.site call.target) by.1.1

back-caller : (contexts : List Context) (open_calls : List Call) (context next : ℕ) → IsContextOf contexts open_calls context →
    next ≡ caller_of open_calls → IsBackFrom contexts context next
back-caller contexts [] context next by same = record {
  out = λ none. same;
  behind = λ positive made there. absurd (omega (arith, positive, by));
}
back-caller contexts (call ∷ open_calls) context next by same = record {
  out = λ none. absurd (let positive = by.0 in omega (arith, positive, none));
  behind = λ positive made there.
      let one : made_by by.1.0 call.site call.target ≡ made =
      same_Some (made_by by.1.0 call.site call.target) made (sym by.1.1 ∙ there) in
      same ∙ ap (λ (c : Context). c.site + 8) one;
}

link-back : (contexts : List Context) (open_calls : List Call) (context address next : ℕ) (kind : LinkKind) → IsContextOf contexts open_calls context →
    GoesBackFrom contexts context kind next → GoesBack open_calls (linking_of kind address next) next
link-back contexts open_calls context address next link.Plain by back_to = tt
link-back contexts open_calls context address next link.Call by back_to = tt
link-back contexts open_calls context address next link.Return by back_to = caller-back contexts open_calls context next by back_to

back-link : (contexts : List Context) (open_calls : List Call) (context address next : ℕ) (kind : LinkKind) → IsContextOf contexts open_calls context →
    GoesBack open_calls (linking_of kind address next) next → GoesBackFrom contexts context kind next
back-link contexts open_calls context address next link.Plain by goes = tt
back-link contexts open_calls context address next link.Call by goes = tt
back-link contexts open_calls context address next link.Return by goes = back-caller contexts open_calls context next by goes

pub keeps-callers : (contexts : List Context) (open_calls : List Call) (context address : ℕ) (kind : LinkKind) (step : Stepped) (done : Done) (t : State) →
    WasDone step done t → IsContextOf contexts open_calls context → linking_of kind address t.pc ≡ done.link →
    GoesBackFrom contexts context kind t.pc → ReturnsToCaller open_calls step
keeps-callers contexts open_calls context address kind step done t was by same back_to = by_step was where
  own : GoesBack open_calls done.link t.pc
  own = subst (λ (l : Linking). GoesBack open_calls l t.pc) same (link-back contexts open_calls context address t.pc kind by back_to)

  by_step : WasDone step done t → ReturnsToCaller open_calls step
  by_step (inl went) = subst (ReturnsToCaller open_calls) (sym went) own
  by_step (inr ended) = subst (ReturnsToCaller open_calls) (sym ended) own

pub callers-kept : (contexts : List Context) (open_calls : List Call) (context address : ℕ) (kind : LinkKind) (step : Stepped) (done : Done) (t : State) →
    WasDone step done t → IsContextOf contexts open_calls context → linking_of kind address t.pc ≡ done.link →
    ReturnsToCaller open_calls step → GoesBackFrom contexts context kind t.pc
callers-kept contexts open_calls context address kind step done t was by same keeps =
    back-link contexts open_calls context address t.pc kind by
    (subst (λ (l : Linking). GoesBack open_calls l t.pc) (sym same) (by_step was))
  where
    by_step : WasDone step done t → GoesBack open_calls done.link t.pc
    by_step (inl went) = subst (ReturnsToCaller open_calls) went keeps
    by_step (inr ended) = subst (ReturnsToCaller open_calls) ended keeps

-- ---- The context behind a unit.
root-parent : (image : Image) (entry : ℕ) (contexts : List Context) → AreContexts image entry contexts → (from : ℕ) (context : Context) →
    from ≡ 0 → slice_get contexts from ≡ Some context → context.parent ≡ 0
root-parent image entry contexts are from context none there =
    let first : slice_get contexts 0 ≡ Some context = subst (λ (n : ℕ). slice_get contexts n ≡ Some context) none there in
    ap (λ (c : Context). c.parent) (same_Some context (root entry) (sym first ∙ are.first))

pub context-behind : (image : Image) (entry : ℕ) (contexts : List Context) → AreContexts image entry contexts → (open_calls : List Call)
    (from to : ℕ) (linking : Linking) → IsContextOf contexts open_calls from → IsContextBehind contexts linking from to →
    IsContextOf contexts (calls_after_link open_calls linking) to
context-behind image entry contexts are open_calls from to Straight by behind = subst (IsContextOf contexts open_calls) (sym behind) by
context-behind image entry contexts are open_calls from to (Calls call) by behind = (behind.0, (from, behind.1, by))
context-behind image entry contexts are [] from to BackLink by behind =
    behind (root entry) (subst (λ (n : ℕ). slice_get contexts n ≡ Some (root entry)) (sym by) are.first)
context-behind image entry contexts are (call ∷ open_calls) from to BackLink by behind =
    let same : to ≡ by.1.0 = behind (made_by by.1.0 call.site call.target) by.1.1 in
    subst (IsContextOf contexts open_calls) (sym same) by.1.2

pub behind-context : (image : Image) (entry : ℕ) (contexts : List Context) → AreContexts image entry contexts → (open_calls : List Call)
    (from to : ℕ) (linking : Linking) → IsContextOf contexts open_calls from →
    IsContextOf contexts (calls_after_link open_calls linking) to → IsContextBehind contexts linking from to
behind-context image entry contexts are open_calls from to Straight by after =
    context-one image entry contexts are open_calls to from after by
behind-context image entry contexts are open_calls from to (Calls call) by after =
    let same = context-one image entry contexts are open_calls after.1.0 from after.1.2 by in
    (after.0, subst (λ (p : ℕ). slice_get contexts to ≡ Some (made_by p call.site call.target)) same after.1.1)
behind-context image entry contexts are [] from to BackLink by after =
    λ context there. after ∙ sym (root-parent image entry contexts are from context by there)
behind-context image entry contexts are (call ∷ open_calls) from to BackLink by after =
    λ context there.
    let own : made_by by.1.0 call.site call.target ≡ context =
    same_Some (made_by by.1.0 call.site call.target) context (sym by.1.1 ∙ there) in
    context-one image entry contexts are open_calls to by.1.0 after by.1.2 ∙ ap (λ (c : Context). c.parent) own
