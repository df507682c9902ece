-- How the next unit of a run that kept all rules so far ends.
use Rattle.std.proofs.Common.{◌≡◌, ℕ, inl, inr, List, [], ◌∷◌, ◌++◌, Option, Some, refl, ap, sym, subst, ◌∙◌}
use Rattle.elf_mips.specs.Segments.{code_at as image_code}
use Rattle.flow_net.specs.Numbers.{item_at}
use Rattle.flow_net.specs.declared.net.NetArc.{NetArc}
use Rattle.mips_decode.specs.Calls.{ReturnsToCaller}
use Rattle.mips_decode.specs.Effect.{reg}
use Rattle.mips_decode.specs.Records.{KeepsTargets}
use Rattle.mips_decode.specs.State.{State, code_at, return_address}
use Rattle.mips_decode.specs.Step.{Done, Stepped, Went, Returned as Ended, Trapped, value_step}
use Rattle.mips_decode.specs.Transfer.{Call, linking_of}
use Rattle.mips_decode.specs.Units.{RunUnit, Stand, stand_after}
use Rattle.mips_decode.specs.declared.step.Touched.{Touched}
use Rattle.mips_decode.specs.declared.step.TrapKind.{TrapKind}
use Rattle.mips_decode.specs.declared.transfer.LinkKind.{LinkKind}
use Rattle.mips_machine.specs.declared.outcome.Outcome.{Outcome}
use Rattle.mips_machine.specs.declared.outcome.Outcome.TheVariants.{Going, Returned, Trap}
use Rattle.mips_machine.specs.Machine.{Machine, done_by, whole_step}
use Rattle.net_model.specs.Runs.{IsPlaceFor}
use Rattle.net_model.specs.Targets.{targets_at}
use Rattle.image_run.specs.declared.course.Course.{Course}
use Rattle.image_run.specs.declared.course.Program.{Program}
use Rattle.image_run.specs.declared.follow.Seen.{Seen}
use Rattle.image_run.specs.declared.report.BrokenKind.{BrokenKind}
use Rattle.image_run.specs.declared.report.BrokenKind.TheVariants as broken
use Rattle.image_run.specs.declared.report.Verdict.{Verdict}
use Rattle.image_run.specs.declared.report.Verdict.TheVariants.{Kept, Broken}
use Rattle.image_run.specs.declared.spots.Spot.{Spot}
use Rattle.image_run.specs.declared.turns.Turns.{Turns}
use Rattle.image_run.specs.Course.{Goes, IsCourse, IsFollowed, IsFollowing, IsJudged, IsRunnable, stand_behind, units_done}
use Rattle.image_run.specs.Links.{kind_by}
use Rattle.image_run.specs.Road.{IsPlaceBehind, IsSpotAt}
use Rattle.image_run.specs.Ranges.{KeepsRange, ranges_at}
use Rattle.image_run.specs.Turns.{AreTracked, IsOver, IsSized, IsVisited}
use Rattle.image_run.specs.Verdicts.{IsBroken, IsVerdict, KeepAll}
use Rattle.image_run.proofs.Doing.{Ends, step-ends}
use Rattle.image_run.proofs.Following.{behind-arc, behind-place, broken-more, here, keep-more, trap-kept, visit-broken, visit-kept, visited-next, zero-more}
use Rattle.image_run.proofs.Growing.{stand-more}
use Rattle.image_run.proofs.Judging.{linked, rule-broken, rules-kept, sight}
use Rattle.image_run.proofs.Passing.{IsStepOf, IsToldBy, WentOn, coming, ended-by, goes, trapped-by, went-on}
use Rattle.image_run.proofs.Rules.{WasDone}

-- A verdict tells by itself, however the unit ended.
pub told-broken : (program : Program) (units : List RunUnit) (outcome : Outcome) (d : Course) (kind : BrokenKind) (address : ℕ) →
    d.verdict ≡ Broken kind address → IsBroken program.image.now program.entry units kind address → IsToldBy program units outcome d
told-broken program units Going d kind address same is = subst (IsFollowed program units d) (sym same) is
told-broken program units Returned d kind address same is = subst (IsVerdict program.image.now program.entry units) (sym same) is
told-broken program units (Trap why place) d kind address same is = subst (IsVerdict program.image.now program.entry units) (sym same) is

-- A broken run stays broken.
pub stays-broken : (program : Program) (c d : Course) (outcome : Outcome) (is : IsCourse program c) → IsStepOf program c d outcome →
    (kind : BrokenKind) (address : ℕ) → c.verdict ≡ Broken kind address → d.verdict ≡ c.verdict → Goes program outcome d
stays-broken program c d outcome is step kind address same kept =
    goes program c d outcome is step
    (told-broken program (units_done program is.machines ++ coming program is.machines c.machine ∷ []) outcome d kind address (kept ∙ same)
    (broken-more program.image.now program.entry (units_done program is.machines) (coming program is.machines c.machine) kind address
    (subst (IsFollowed program (units_done program is.machines) c) same is.verdict)))

-- A unit that was done, by the image's words.
pub record Performed (program : Program) (c : Course) (m : Machine) : Type 0 where
  pub done : Done
  pub next : State
  pub was : WasDone (value_step (image_code program.image.now.segments) c.machine.values) done next
  pub machine : m ≡ done_by c.machine done next

pub performed : (program : Program) (c : Course) (m : Machine) (outcome : Outcome) → IsCourse program c →
    record { outcome = outcome; machine = m } ≡ whole_step c.machine → ((kind : TrapKind) (address : ℕ) → outcome ≡ Trap kind address → ⊥) →
    Performed program c m
performed program c m Going is step goes_on =
    let on = went-on c.machine m (value_step (code_at c.machine.values.regions) c.machine.values) step in
    record {
      done = on.done;
      next = on.next;
      was = inl (subst (λ (words : ℕ → Option ℕ). value_step words c.machine.values ≡ Went on.done on.next) is.code on.took);
      machine = on.machine;
    }
performed program c m Returned is step goes_on =
    let by = ended-by c.machine m (value_step (code_at c.machine.values.regions) c.machine.values) step in
    record {
      done = by.done;
      next = by.next;
      was = inr (subst (λ (words : ℕ → Option ℕ). value_step words c.machine.values ≡ Ended by.done by.next) is.code by.took);
      machine = by.machine;
    }
performed program c m (Trap kind address) is step goes_on = absurd (goes_on kind address refl)

module _ (program : Program) (runnable : IsRunnable program) (c : Course) (is : IsCourse program c) (kept : c.verdict ≡ Kept) where
  abbrev units : List RunUnit
  units = units_done program is.machines

  abbrev more : List RunUnit
  more = units ++ coming program is.machines c.machine ∷ []

  abbrev pub following : IsFollowing program units c
  following = subst (IsFollowed program units c) kept is.verdict

  -- The visit breaks a bound.
  pub exit-loop : (d : Course) (outcome : Outcome) → IsStepOf program c d outcome → IsOver program.net.now c.turns c.place →
      d.verdict ≡ Broken broken.Loop c.machine.values.pc → Goes program outcome d
  exit-loop d outcome step over verdict =
      goes program c d outcome is step
      (told-broken program more outcome d broken.Loop c.machine.values.pc verdict
      (visit-broken program units c runnable following over (value_step (image_code program.image.now.segments) c.machine.values)))

  module _ (after : Turns) (visited : IsVisited program.net.now c.turns after c.place) where
    -- The unit traps.
    pub exit-trap : (d : Course) (kind : TrapKind) (address : ℕ) → IsStepOf program c d (Trap kind address) → d.verdict ≡ Kept →
        Goes program (Trap kind address) d
    exit-trap d kind address step verdict =
        let by = trapped-by c.machine d.machine kind address (value_step (code_at c.machine.values.regions) c.machine.values) step.machine in
        let trapped : value_step (image_code program.image.now.segments) c.machine.values ≡ Trapped kind address =
        subst (λ (words : ℕ → Option ℕ). value_step words c.machine.values ≡ Trapped kind address) is.code by.took in
        goes program c d (Trap kind address) is step
        (subst (IsVerdict program.image.now program.entry more) (sym verdict)
        (trap-kept program.image.now program.entry units (coming program is.machines c.machine) kind address trapped following.kept
        (visit-kept program units c runnable following after visited (value_step (image_code program.image.now.segments) c.machine.values))))

    -- The unit is done, and seen so.
    module _ (m : Machine) (did : Performed program c m) (spot : Spot) (tells : IsSpotAt program.image.now c.machine.values.pc spot) where
      abbrev calls : List Call
      calls = (stand_behind program units).calls

      abbrev pub looks : Seen
      looks = record {
        address = c.machine.values.pc;
        context = following.place.context;
        link = kind_by spot.link c.machine.values.regs;
        next = m.values.pc;
        access = m.last;
      }

      same-sight : looks ≡ sight program calls c.machine.values did.next did.done tells.unit spot following.place.context tells.stands tells.tells did.was following.place.by
      same-sight = ap (λ (k : Machine). record {
        address = c.machine.values.pc;
        context = following.place.context;
        link = kind_by spot.link c.machine.values.regs;
        next = k.values.pc;
        access = k.last;
      }) did.machine

      judged-sight : (verdict : Verdict) → IsJudged program.image.now program.net.now spot looks verdict →
          IsJudged program.image.now program.net.now spot
          (sight program calls c.machine.values did.next did.done tells.unit spot following.place.context tells.stands tells.tells did.was following.place.by) verdict
      judged-sight verdict judged = subst (λ (s : Seen). IsJudged program.image.now program.net.now spot s verdict) same-sight judged

      -- A rule is broken behind the visit.
      pub exit-broken : (d : Course) (outcome : Outcome) (kind : BrokenKind) (address : ℕ) → IsStepOf program c d outcome →
          IsJudged program.image.now program.net.now spot looks (Broken kind address) → d.verdict ≡ Broken kind address → Goes program outcome d
      exit-broken d outcome kind address step judged verdict =
          goes program c d outcome is step
          (told-broken program more outcome d kind address verdict
          (record {
            front = units;
            unit = coming program is.machines c.machine;
            rest = [];
            parts = refl;
            kept = following.kept;
            breaks = rule-broken program calls c.machine.values did.next did.done tells.unit spot following.place.context tells.stands tells.tells
                did.was following.place.by kind address units
                (visit-kept program units c runnable following after visited (value_step (image_code program.image.now.segments) c.machine.values))
                (judged-sight (Broken kind address) judged);
          }))

      module _ (judged : IsJudged program.image.now program.net.now spot looks Kept) where
        rules : KeepsTargets (targets_at program.image.now c.machine.values.pc) (value_step (image_code program.image.now.segments) c.machine.values)
            × KeepsRange (ranges_at program.image.now) c.machine.values.pc (value_step (image_code program.image.now.segments) c.machine.values)
            × ReturnsToCaller calls (value_step (image_code program.image.now.segments) c.machine.values)
        rules = rules-kept program calls c.machine.values did.next did.done tells.unit spot following.place.context tells.stands tells.tells
            did.was following.place.by (judged-sight Kept judged)

        all-kept : KeepAll program.image.now program.entry more
        all-kept = keep-more program.image.now program.entry units (coming program is.machines c.machine) following.kept
            (visit-kept program units c runnable following after visited (value_step (image_code program.image.now.segments) c.machine.values))
            rules.0 rules.1 rules.2

        -- The entry returns.
        pub exit-returned : (d : Course) → IsStepOf program c d Returned → d.verdict ≡ Kept → Goes program Returned d
        exit-returned d step verdict =
            goes program c d Returned is step (subst (IsVerdict program.image.now program.entry more) (sym verdict) all-kept)

        link-same : linking_of (kind_by spot.link c.machine.values.regs) c.machine.values.pc m.values.pc ≡ did.done.link
        link-same =
            ap (λ (k : Machine). linking_of (kind_by spot.link c.machine.values.regs) c.machine.values.pc k.values.pc) did.machine
            ∙ linked program calls c.machine.values did.next did.done tells.unit spot following.place.context tells.stands tells.tells
            did.was following.place.by

        -- The run goes on.
        module _ (going : record { outcome = Going; machine = m } ≡ whole_step c.machine) where
          went : value_step (image_code program.image.now.segments) c.machine.values ≡ Went did.done did.next
          went = by_form did.was where
            on : WentOn c.machine m (value_step (code_at c.machine.values.regions) c.machine.values)
            on = went-on c.machine m (value_step (code_at c.machine.values.regions) c.machine.values) going

            by_form : WasDone (value_step (image_code program.image.now.segments) c.machine.values) did.done did.next →
                value_step (image_code program.image.now.segments) c.machine.values ≡ Went did.done did.next
            by_form (inl went) = went
            by_form (inr ended) =
                let other = subst (λ (words : ℕ → Option ℕ). value_step words c.machine.values ≡ Went on.done on.next) is.code on.took in
                absurd (let no = sym other ∙ ended in cc)

          away : did.next.pc ≡ return_address → ⊥
          away = subst Ends went (step-ends (image_code program.image.now.segments) c.machine.values)

          -- Some arc leads to where it stands then.
          pub must-lead : ((number : ℕ) (arc : NetArc) → item_at number program.net.now.arcs ≡ Some arc → arc.from ≡ c.place →
              IsPlaceBehind program.net.now (linking_of (kind_by spot.link c.machine.values.regs) c.machine.values.pc m.values.pc)
              following.place.context m.values.pc arc.to → ⊥) → ⊥
          must-lead none =
              behind-arc program runnable calls c.machine.values did.next c.place did.done went away following.zero
              (here program units c following) rules.0 rules.2
              (λ number arc there leaves behind. none number arc there leaves
              (subst (λ l. IsPlaceBehind program.net.now l following.place.context m.values.pc arc.to) (sym link-same)
              (subst (λ (n : ℕ). IsPlaceBehind program.net.now did.done.link following.place.context n arc.to)
              (sym (ap (λ (k : Machine). k.values.pc) did.machine)) behind)))

          pub exit-going : (d : Course) → d.machine ≡ m → IsStepOf program c d Going → d.verdict ≡ Kept → d.turns ≡ after → IsSized program.net.now after →
              IsPlaceBehind program.net.now (linking_of (kind_by spot.link c.machine.values.regs) c.machine.values.pc m.values.pc)
              following.place.context m.values.pc d.place → Goes program Going d
          exit-going d same step verdict turns sized behind =
              goes program c d Going is step (subst (IsFollowed program more d) (sym verdict) next) where
                state : d.machine.values ≡ did.next
                state = ap (λ (k : Machine). k.values) (same ∙ did.machine)

                stand : stand_behind program more ≡ stand_after (coming program is.machines c.machine)
                stand = stand-more (record { calls = []; address = program.entry }) units (coming program is.machines c.machine)

                next : IsFollowing program more d
                next = record {
                  kept = all-kept;
                  zero = subst (λ (s : State). reg s.regs 0 ≡ 0) (sym state)
                      (zero-more program.image.now tells.unit c.machine.values did.next did.done tells.stands following.zero went rules.0);
                  place = subst (λ (w : Stand). IsPlaceFor program.net.now w d.place) (sym stand)
                      (behind-place program runnable calls c.machine.values did.next c.place did.done went (here program units c following) d.place
                      (subst (λ l. IsPlaceBehind program.net.now l following.place.context did.next.pc d.place) link-same
                      (subst (λ (n : ℕ). IsPlaceBehind program.net.now (linking_of (kind_by spot.link c.machine.values.regs) c.machine.values.pc m.values.pc)
                      following.place.context n d.place) (ap (λ (k : Machine). k.values.pc) did.machine) behind)));
                  address = ap (λ (w : Stand). w.address) stand
                      ∙ ap (λ (w : Stepped). (stand_after (record { at = (coming program is.machines c.machine).at; step = w })).address) went
                      ∙ ap (λ (s : State). s.pc) (sym state);
                  visited = following.visited ++ c.place ∷ [];
                  are = visited-next program units c following (value_step (image_code program.image.now.segments) c.machine.values);
                  turns = subst (AreTracked program.net.now (following.visited ++ c.place ∷ [])) (sym turns)
                      (visited following.visited following.turns);
                  sized = subst (IsSized program.net.now) (sym turns) sized;
                }

-- ---- What the code sees, by other words.
pub sees : (program : Program) (spot : Spot) (verdict : Verdict) (address a context k next n : ℕ) (kind other : LinkKind) (access touched : Option Touched) →
    address ≡ a → context ≡ k → kind ≡ other → next ≡ n → access ≡ touched →
    IsJudged program.image.now program.net.now spot (record { address = address; context = context; link = kind; next = next; access = access }) verdict →
    IsJudged program.image.now program.net.now spot (record { address = a; context = k; link = other; next = n; access = touched }) verdict
sees program spot verdict address a context k next n kind other access touched one two three four five judged =
    subst (λ (s : Seen). IsJudged program.image.now program.net.now spot s verdict) same judged
  where
    same : ◌≡◌ {A = Seen} (record { address = address; context = context; link = kind; next = next; access = access })
        (record { address = a; context = k; link = other; next = n; access = touched })
    same = rw (one, two, three, four, five) refl

-- A verdict that isn't broken is kept.
pub verdict-kept : (verdict : Verdict) → ((kind : BrokenKind) (address : ℕ) → verdict ≡ Broken kind address → ⊥) → verdict ≡ Kept
verdict-kept Kept not_broken = refl
verdict-kept (Broken kind address) not_broken = absurd (not_broken kind address refl)

-- A unit that neither trapped nor returned goes on.
pub outcome-going : (outcome : Outcome) → ((kind : TrapKind) (address : ℕ) → outcome ≡ Trap kind address → ⊥) → (outcome ≡ Returned → ⊥) → outcome ≡ Going
outcome-going Going not_trap not_returned = refl
outcome-going Returned not_trap not_returned = absurd (not_returned refl)
outcome-going (Trap kind address) not_trap not_returned = absurd (not_trap kind address refl)
