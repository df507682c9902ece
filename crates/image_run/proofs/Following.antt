-- A run that kept all rules so far, and its next unit.
use Rattle.std.proofs.Common.{◌≡◌, ℕ, ◌-◌, ◌==◌, Bool, true, false, get_or, List, [], ◌∷◌, ◌++◌, Option, Some, refl, ap, sym, subst, ◌∙◌}
use Rattle.std.proofs.lemmas.List.{append_assoc}
use Rattle.std.proofs.lemmas.List.Elements.{All-nil, All-push}
use Rattle.elf_mips.specs.declared.image.Image.{Image}
use Rattle.elf_mips.specs.Segments.{code_at as image_code}
use Rattle.flow_net.specs.Numbers.{IsNumberOf, item_at}
use Rattle.flow_net.specs.Visits.{KeepsBounds}
use Rattle.flow_net.proofs.Numbers.{item_at-same}
use Rattle.flow_net.specs.declared.net.Net.{Net}
use Rattle.flow_net.specs.declared.net.NetArc.{NetArc}
use Rattle.flow_net.specs.declared.net.Place.{Place}
use Rattle.mips_decode.specs.Calls.{ReturnsToCaller, calls_after_link}
use Rattle.mips_decode.specs.Effect.{reg}
use Rattle.mips_decode.specs.Records.{KeepsTargets}
use Rattle.mips_decode.specs.Run.{Joins}
use Rattle.mips_decode.specs.State.{State, return_address}
use Rattle.mips_decode.specs.Table.{IsValid}
use Rattle.mips_decode.specs.declared.instr.BranchOp.TheVariants.{Beq, Bne, Blez, Bgtz, Bltz, Bgez, Bltzal, Bgezal}
use Rattle.mips_decode.specs.declared.instr.Instr.{Instr}
use Rattle.mips_decode.specs.declared.instr.Instr.TheVariants.{Three, Shift, HiLo, MulDiv, Imm, Lui, Load, Store, Branch, Jump, JumpReg, JumpLink, Stop}
use Rattle.mips_decode.specs.Step.{Done, Stepped, Went, Trapped, value_step}
use Rattle.mips_decode.specs.Transfer.{Call, linking_of}
use Rattle.mips_decode.specs.Units.{RunUnit, Stand, stand_after, visits}
use Rattle.mips_decode.specs.declared.step.TrapKind.{TrapKind}
use Rattle.mips_decode.specs.declared.transfer.LinkKind.{LinkKind}
use Rattle.net_model.specs.declared.unit.CodeUnit.{CodeUnit}
use Rattle.net_model.specs.declared.unit.Content.TheVariants.{Unit as Stands}
use Rattle.net_model.specs.Contexts.{IsContextOf}
use Rattle.net_model.specs.Places.{IsPlaceOf}
use Rattle.net_model.specs.Runs.{AreMoments, AreVisited, IsPlaceFor, IsUnitTold}
use Rattle.net_model.specs.Targets.{targets_at, unit_at}
use Rattle.net_model.proofs.RunPaths.{IsAlong, IsAt, along}
use Rattle.net_model.proofs.Steps.{unit-goes}
use Rattle.call_contexts.proofs.NetItems.{place-number, place-reached}
use Rattle.image_run.specs.declared.course.Course.{Course}
use Rattle.image_run.specs.declared.course.Program.{Program}
use Rattle.image_run.specs.declared.turns.Turns.{Turns}
use Rattle.image_run.specs.declared.report.BrokenKind.{BrokenKind}
use Rattle.image_run.specs.declared.report.BrokenKind.TheVariants as broken
use Rattle.image_run.specs.Course.{IsFollowing, IsRunnable, stand_behind}
use Rattle.image_run.specs.Ranges.{KeepsRange, ranges_at}
use Rattle.image_run.specs.declared.spots.Spot.{Spot}
use Rattle.image_run.specs.Links.{IsLow, link_in, return_link}
use Rattle.image_run.specs.Road.{IsPlaceBehind, IsSpotAt}
use Rattle.image_run.specs.Turns.{AreTracked, IsOver, IsVisited}
use Rattle.image_run.specs.Verdicts.{IsBroken, KeepAll, KeepLoops}
use Rattle.image_run.proofs.Headed.{place-read}
use Rattle.image_run.proofs.Rules.{behind-context, context-behind}
use Rattle.image_run.proofs.Turning.{tracks-kept}
use Rattle.image_run.proofs.Visiting.{loops-broken, loops-kept, visited-more, visits-append}

-- ---- The next unit stands at the place of the course.
abbrev pub here : (program : Program) (units : List RunUnit) (c : Course) → IsFollowing program units c →
    IsPlaceFor program.net.now (record { calls = (stand_behind program units).calls; address = c.machine.values.pc }) c.place
here program units c fol = record {
  context = fol.place.context;
  by = fol.place.by;
  at = subst (IsPlaceOf program.net.now c.place fol.place.context) fol.address fol.place.at;
}

pub number-here : (program : Program) (units : List RunUnit) (c : Course) → IsFollowing program units c →
    IsNumberOf program.net.now.places c.place
number-here program units c fol = place-number program.net.now c.place fol.place.context _ fol.place.at

-- ---- The visit of the next unit.
pub visited-next : (program : Program) (units : List RunUnit) (c : Course) (fol : IsFollowing program units c) (step : Stepped) →
    AreVisited program.net.now
    (visits (units ++ record { at = record { calls = (stand_behind program units).calls; address = c.machine.values.pc }; step = step } ∷ []))
    (fol.visited ++ c.place ∷ [])
visited-next program units c fol step =
    let unit : RunUnit = record { at = record { calls = (stand_behind program units).calls; address = c.machine.values.pc }; step = step } in
    subst (λ (stands : List Stand). AreVisited program.net.now stands (fol.visited ++ c.place ∷ [])) (sym (visits-append units (unit ∷ [])))
    (visited-more program.net.now (visits units) fol.visited unit.at c.place fol.are (here program units c fol))

tracked-kept : (net : Net) (visited : List ℕ) (turns : Turns) → AreTracked net visited turns → KeepsBounds net visited
tracked-kept net visited turns are scope inst there =
    tracks-kept net scope inst visited turns.from _ (are.loops scope inst there)

-- The run with its next unit.
abbrev pub with_next : Program → List RunUnit → Course → Stepped → List RunUnit
with_next program units c step =
    units ++ record { at = record { calls = (stand_behind program units).calls; address = c.machine.values.pc }; step = step } ∷ []

pub visit-kept : (program : Program) (units : List RunUnit) (c : Course) → IsRunnable program → IsFollowing program units c → (after : Turns) →
    IsVisited program.net.now c.turns after c.place → (step : Stepped) →
    KeepLoops program.image.now program.entry (with_next program units c step)
visit-kept program units c runnable fol after visited step =
    loops-kept program.image.now program.entry program.net.now runnable.is_net (with_next program units c step) (fol.visited ++ c.place ∷ [])
    (visited-next program units c fol step)
    (tracked-kept program.net.now (fol.visited ++ c.place ∷ []) after (visited fol.visited fol.turns))

pub visit-broken : (program : Program) (units : List RunUnit) (c : Course) → IsRunnable program → IsFollowing program units c →
    IsOver program.net.now c.turns c.place → (step : Stepped) →
    IsBroken program.image.now program.entry (with_next program units c step) broken.Loop c.machine.values.pc
visit-broken program units c runnable fol over step = record {
  front = units;
  unit = record { at = record { calls = (stand_behind program units).calls; address = c.machine.values.pc }; step = step };
  rest = [];
  parts = refl;
  kept = fol.kept;
  breaks = record {
    breaks = loops-broken program.image.now program.entry program.net.now runnable.is_net (with_next program units c step)
        (fol.visited ++ c.place ∷ []) (visited-next program units c fol step) (over fol.visited fol.turns);
    place = refl;
  };
}

-- ---- All rules are kept with the next unit.
pub keep-more : (image : Image) (entry : ℕ) (units : List RunUnit) (unit : RunUnit) → KeepAll image entry units →
    KeepLoops image entry (units ++ unit ∷ []) → KeepsTargets (targets_at image unit.at.address) unit.step →
    KeepsRange (ranges_at image) unit.at.address unit.step → ReturnsToCaller unit.at.calls unit.step →
    KeepAll image entry (units ++ unit ∷ [])
keep-more image entry units unit kept loops targets ranges callers = record {
  records = record {
    targets = All-push (λ (u : RunUnit). KeepsTargets (targets_at image u.at.address) u.step) units unit kept.records.targets targets;
    bounds = loops;
  };
  ranges = All-push (λ (u : RunUnit). KeepsRange (ranges_at image) u.at.address u.step) units unit kept.ranges ranges;
  callers = All-push (λ (u : RunUnit). ReturnsToCaller u.at.calls u.step) units unit kept.callers callers;
}

-- A unit that traps keeps them where its visit does.
pub trap-kept : (image : Image) (entry : ℕ) (units : List RunUnit) (unit : RunUnit) (kind : TrapKind) (address : ℕ) → unit.step ≡ Trapped kind address →
    KeepAll image entry units → KeepLoops image entry (units ++ unit ∷ []) → KeepAll image entry (units ++ unit ∷ [])
trap-kept image entry units unit kind address trapped kept loops =
    keep-more image entry units unit kept loops
    (subst (KeepsTargets (targets_at image unit.at.address)) (sym trapped) tt)
    (subst (KeepsRange (ranges_at image) unit.at.address) (sym trapped) tt)
    (subst (ReturnsToCaller unit.at.calls) (sym trapped) tt)

-- A broken run stays broken.
pub broken-more : (image : Image) (entry : ℕ) (units : List RunUnit) (unit : RunUnit) (kind : BrokenKind) (address : ℕ) →
    IsBroken image entry units kind address → IsBroken image entry (units ++ unit ∷ []) kind address
broken-more image entry units unit kind address is = record {
  front = is.front;
  unit = is.unit;
  rest = is.rest ++ unit ∷ [];
  parts = ap (λ (us : List RunUnit). us ++ unit ∷ []) is.parts ∙ append_assoc is.front (is.unit ∷ is.rest) (unit ∷ []);
  kept = is.kept;
  breaks = is.breaks;
}

-- ---- Where the next unit leads.
module _ (program : Program) (runnable : IsRunnable program) (open_calls : List Call) (s t : State) (place : ℕ) where
  abbrev code : ℕ → Option ℕ
  code = image_code program.image.now.segments

  abbrev unit : RunUnit
  unit = record { at = record { calls = open_calls; address = s.pc }; step = value_step code s }

  -- The place behind it, as the code finds it.
  pub behind-place : (done : Done) → value_step code s ≡ Went done t → (at : IsPlaceFor program.net.now unit.at place) → (to : ℕ) →
      IsPlaceBehind program.net.now done.link at.context t.pc to → IsPlaceFor program.net.now (stand_after unit) to
  behind-place done step at to behind =
      let stand : Stand = record { calls = calls_after_link open_calls done.link; address = t.pc } in
      let same : stand_after unit ≡ stand = ap (λ (w : Stepped). stand_after (record { at = unit.at; step = w })) step in
      subst (λ (w : Stand). IsPlaceFor program.net.now w to) (sym same)
      (record {
        context = behind.place.context;
        by = context-behind program.image.now program.entry program.net.now.contexts runnable.is_net.contexts open_calls at.context
            behind.place.context done.link at.by behind.context;
        at = record { place = behind.place; there = behind.there; within = refl; same = behind.same };
      })

  -- An arc leads there.
  pub behind-arc : (done : Done) → value_step code s ≡ Went done t → (t.pc ≡ return_address → ⊥) → reg s.regs 0 ≡ 0 →
      (at : IsPlaceFor program.net.now unit.at place) → KeepsTargets (targets_at program.image.now s.pc) (value_step code s) →
      ReturnsToCaller open_calls (value_step code s) →
      ((number : ℕ) (arc : NetArc) → item_at number program.net.now.arcs ≡ Some arc → arc.from ≡ place →
      IsPlaceBehind program.net.now done.link at.context t.pc arc.to → ⊥) → ⊥
  behind-arc done step away is_zero at targets callers none =
      let placed : IsAt program.image.now program.net.now open_calls s.pc place = record {
        context = at.context;
        by = at.by;
        reaches = place-reached program.image.now program.entry program.net.now runnable.is_net place at.context s.pc at.at;
        at = at.at;
      } in
      let led : IsAlong program.image.now program.net.now code open_calls s (t ∷ []) place =
      along program.image.now program.entry program.net.now runnable.is_net runnable.units (t ∷ []) open_calls s place placed is_zero
      (subst (λ (w : Stepped). Joins w t []) (sym step) refl, tt)
      (All-push (λ (u : RunUnit). KeepsTargets (targets_at program.image.now u.at.address) u.step) [] unit (All-nil _) targets)
      (All-push (λ (u : RunUnit). ReturnsToCaller u.at.calls u.step) [] unit (All-nil _) callers) in
      let units : AreMoments program.net.now place (unit ∷ []) led.moments = led.units in
      let number : ℕ = units.1.0 in
      let to : ℕ = units.1.1.0 in
      let told : IsUnitTold program.net.now place unit units.0 number to = units.1.1.1.1 in
      let stand : Stand = record { calls = calls_after_link open_calls done.link; address = t.pc } in
      let same : stand_after unit ≡ stand = ap (λ (w : Stepped). stand_after (record { at = unit.at; step = w })) step in
      let after : IsPlaceFor program.net.now stand told.arc.to =
      subst (λ (n : ℕ). IsPlaceFor program.net.now stand n) (sym told.leads)
      (subst (λ (w : Stand). IsPlaceFor program.net.now w to) same
      (told.after.within (λ e. away (ap (λ (w : Stand). w.address) (sym same) ∙ e)))) in
      none number told.arc told.there told.leaves (record {
        place = after.at.place;
        there = after.at.there;
        same = after.at.same;
        context = behind-context program.image.now program.entry program.net.now.contexts runnable.is_net.contexts open_calls at.context
            after.at.place.context done.link at.by
            (subst (IsContextOf program.net.now.contexts (calls_after_link open_calls done.link)) (sym after.at.within) after.by);
      })

-- ---- A unit that went on keeps register 0.
pub zero-more : (image : Image) (unit : CodeUnit) (s t : State) (done : Done) → unit_at image s.pc ≡ Stands unit → reg s.regs 0 ≡ 0 →
    value_step (image_code image.segments) s ≡ Went done t → KeepsTargets (targets_at image s.pc) (value_step (image_code image.segments) s) →
    reg t.regs 0 ≡ 0
zero-more image unit s t done stands is_zero step targets =
    (unit-goes image unit s t [] stands is_zero targets (subst (λ (w : Stepped). Joins w t []) (sym step) refl)).zero

-- ---- What the tables say of the place.
pub spot-here : (program : Program) (units : List RunUnit) (c : Course) → IsFollowing program units c → (spot : Spot) →
    ((at : Place) → item_at c.place program.net.now.places ≡ Some at → IsSpotAt program.image.now at.address spot) →
    IsSpotAt program.image.now c.machine.values.pc spot
spot-here program units c fol spot tells =
    subst (λ (a : ℕ). IsSpotAt program.image.now a spot) (fol.place.at.same ∙ fol.address) (tells fol.place.at.place fol.place.at.there)

pub context-here : (program : Program) (units : List RunUnit) (c : Course) (fol : IsFollowing program units c) (places : List Place) (d : Place) →
    places ≡ program.net.now.places → (get_or places (c.place - 1) d).context ≡ fol.place.context
context-here program units c fol places d same =
    ap (λ (p : Place). p.context)
    (item_at-same program.net.now.places c.place (get_or places (c.place - 1) d) fol.place.at.place
    (place-read program.net.now c.place places d (number-here program units c fol) same) fol.place.at.there)
    ∙ fol.place.at.within

link-low : (instr : Instr) → IsValid instr → IsLow (link_in instr)
link-low (Three op rd rs rt) valid = tt
link-low (Shift op rd rt by) valid = tt
link-low (HiLo op number) valid = tt
link-low (MulDiv op rs rt) valid = tt
link-low (Imm op rt rs imm) valid = tt
link-low (Lui rt imm) valid = tt
link-low (Load op rt base offset) valid = tt
link-low (Store op rt base offset) valid = tt
link-low (Branch Beq rs rt offset) valid = tt
link-low (Branch Bne rs rt offset) valid = tt
link-low (Branch Blez rs rt offset) valid = tt
link-low (Branch Bgtz rs rt offset) valid = tt
link-low (Branch Bltz rs rt offset) valid = tt
link-low (Branch Bgez rs rt offset) valid = tt
link-low (Branch Bltzal rs rt offset) valid = valid.0
link-low (Branch Bgezal rs rt offset) valid = valid.0
link-low (Jump true index) valid = tt
link-low (Jump false index) valid = tt
link-low (JumpReg rs) valid = by_number (rs == 31) refl where
  by_number : (b : Bool) → (rs == 31) ≡ b → IsLow (return_link rs)
  by_number true is = rw is tt
  by_number false is = rw is tt
link-low (JumpLink rd rs) valid = tt
link-low (Stop op code) valid = tt

pub spot-low : (program : Program) (address : ℕ) (spot : Spot) → IsSpotAt program.image.now address spot → IsLow spot.link
spot-low program address spot tells = subst IsLow (sym tells.tells.link) (link-low tells.unit.instr tells.placed.standing.valid)

-- The same place, by other words.
pub respell : (net : Net) (kind other : LinkKind) (address a context k next n to : ℕ) → kind ≡ other → address ≡ a → context ≡ k → next ≡ n →
    IsPlaceBehind net (linking_of kind address next) context next to → IsPlaceBehind net (linking_of other a n) k n to
respell net kind other address a context k next n to one two three four behind =
    subst (λ (w : ℕ). IsPlaceBehind net (linking_of other a w) k w to) four
    (subst (λ (w : ℕ). IsPlaceBehind net (linking_of other a next) w next to) three
    (subst (λ (w : ℕ). IsPlaceBehind net (linking_of other w next) context next to) two
    (subst (λ (w : LinkKind). IsPlaceBehind net (linking_of w address next) context next to) one behind)))
