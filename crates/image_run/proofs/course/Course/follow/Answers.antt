-- The next unit of a run that kept all rules so far, by each way in which it may end.
use Rattle.std.proofs.Common.{◌≡◌, ℕ, refl, ap, sym, subst, ◌∙◌}
use Rattle.flow_net.specs.declared.net.Place.{Place}
use Rattle.mips_machine.specs.declared.outcome.Outcome.{Outcome}
use Rattle.mips_machine.specs.declared.outcome.Outcome.TheVariants.{Going}
use Rattle.mips_machine.specs.Machine.{whole_step}
use Rattle.image_run.specs.declared.course.Course.{Course}
use Rattle.image_run.specs.declared.report.BrokenKind.TheVariants as broken
use Rattle.image_run.specs.declared.report.Verdict.TheVariants.{Kept, Broken}
use Rattle.image_run.specs.Course.{Goes, IsFollowing, IsJudged, units_done}
use Rattle.image_run.specs.Links.{kind_by}
use Rattle.image_run.specs.Road.{IsSpotAt}
use Rattle.image_run.proofs.Exits.{Performed, exit-broken, exit-going, exit-loop, exit-returned, exit-trap, following, must-lead, outcome-going, performed, sees, verdict-kept}
use Rattle.image_run.proofs.Following.{context-here, number-here, respell, spot-here, spot-low}
use Rattle.image_run.proofs.Passing.{IsStepOf}
use Rattle.image_run.proofs.course.Course.follow.Goals as goal

pub returns-then-not-visit : goal.returns-then-not-visit
returns-then-not-visit c = record {
  goes = exit-loop c.args.program.now c.requires.runnable c.args.self.now c.requires.course c.requires.kept c.step.new.self c.step.result
      (record { machine = c.step.ensures.machine; small = c.step.ensures.small; steps = c.step.ensures.steps })
      c.if-not-visit.ensures.broken
      (c.step.ensures.verdict ∙ ap (λ (a : ℕ). Broken broken.Loop a) c.pc-address.ensures);
  counts = c.step.ensures.steps;
}

fol_at : (c : goal.Else-not-visit) → IsFollowing c.args.program.now (units_done c.args.program.now c.requires.course.machines) c.args.self.now
fol_at c = following c.args.program.now c.requires.runnable c.args.self.now c.requires.course c.requires.kept

pub spot-spot-requires-clause-place : goal.spot-spot-requires-clause-place
spot-spot-requires-clause-place c =
    number-here c.args.program.now (units_done c.args.program.now c.requires.course.machines) c.args.self.now (fol_at c)

pub kind-link-requires : goal.kind-link-requires
kind-link-requires c =
    let fol = following c.args.program.now c.requires.runnable c.args.self.now c.requires.course c.requires.kept in
    spot-low c.args.program.now c.args.self.now.machine.values.pc c.spot-spot.result.now
    (spot-here c.args.program.now (units_done c.args.program.now c.requires.course.machines) c.args.self.now fol c.spot-spot.result.now c.spot-spot.ensures)

pub returns-in-Trap : goal.returns-in-Trap
returns-in-Trap c = record {
  goes = subst (λ (o : Outcome). Goes c.args.program.now o c.step-outcome.new.self) (sym c.in-Trap.is)
      (exit-trap c.args.program.now c.requires.runnable c.args.self.now c.requires.course c.requires.kept c.visit.new.self c.if-not-visit.ensures.kept
      c.step-outcome.new.self c.in-Trap.kind c.in-Trap.address
      (subst (IsStepOf c.args.program.now c.args.self.now c.step-outcome.new.self) c.in-Trap.is
      (record { machine = c.step-outcome.ensures.machine; small = c.step-outcome.ensures.small; steps = c.step-outcome.ensures.steps }))
      (c.step-outcome.ensures.verdict ∙ c.requires.kept));
  counts = c.step-outcome.ensures.steps;
}

pub returns-in-Broken : goal.returns-in-Broken
returns-in-Broken c =
    let program = c.args.program.now in
    let old : Course = c.args.self.now in
    let units = units_done program c.requires.course.machines in
    let fol = following program c.requires.runnable old c.requires.course c.requires.kept in
    let spot = c.spot-spot.result.now in
    let zeros : Place = record { context = 0; address = 0; scope = 0 } in
    let tells : IsSpotAt program.image.now old.machine.values.pc spot = spot-here program units old fol spot c.spot-spot.ensures in
    let did : Performed program old c.step-outcome.new.self.machine =
    performed program old c.step-outcome.new.self.machine c.step-outcome.result c.requires.course c.step-outcome.ensures.machine c.in_default.not-Trap in
    record {
      goes = exit-broken program c.requires.runnable old c.requires.course c.requires.kept c.visit.new.self c.if-not-visit.ensures.kept
          c.step-outcome.new.self.machine did spot tells _ c.step-outcome.result c.in-Broken.kind c.in-Broken.address
          (record { machine = c.step-outcome.ensures.machine; small = c.step-outcome.ensures.small; steps = c.step-outcome.ensures.steps })
          (sees program spot (Broken c.in-Broken.kind c.in-Broken.address) c.pc-address.result old.machine.values.pc _ fol.place.context
          c.pc-next.result c.step-outcome.new.self.machine.values.pc c.kind-link.result (kind_by spot.link old.machine.values.regs)
          c.last_data-access.result c.step-outcome.new.self.machine.last c.pc-address.ensures
          (context-here program units old fol c.as_slice.result.now zeros c.as_slice.ensures) c.kind-link.ensures c.pc-next.ensures c.last_data-access.ensures
          (subst (IsJudged program.image.now program.net.now spot _) c.in-Broken.is c.judge-verdict.ensures))
          c.in-Broken.is;
      counts = c.step-outcome.ensures.steps;
    }

pub returns-in-Returned : goal.returns-in-Returned
returns-in-Returned c =
    let program = c.args.program.now in
    let old : Course = c.args.self.now in
    let units = units_done program c.requires.course.machines in
    let fol = following program c.requires.runnable old c.requires.course c.requires.kept in
    let spot = c.spot-spot.result.now in
    let zeros : Place = record { context = 0; address = 0; scope = 0 } in
    let tells : IsSpotAt program.image.now old.machine.values.pc spot = spot-here program units old fol spot c.spot-spot.ensures in
    let did : Performed program old c.step-outcome.new.self.machine =
    performed program old c.step-outcome.new.self.machine c.step-outcome.result c.requires.course c.step-outcome.ensures.machine c.in_default.not-Trap in
    let kept : c.judge-verdict.result ≡ Kept = verdict-kept c.judge-verdict.result c.in_default-verdict.not-Broken in
    let judged = sees program spot Kept c.pc-address.result old.machine.values.pc _ fol.place.context
    c.pc-next.result c.step-outcome.new.self.machine.values.pc c.kind-link.result (kind_by spot.link old.machine.values.regs)
    c.last_data-access.result c.step-outcome.new.self.machine.last c.pc-address.ensures
    (context-here program units old fol c.as_slice.result.now zeros c.as_slice.ensures) c.kind-link.ensures c.pc-next.ensures c.last_data-access.ensures
    (subst (IsJudged program.image.now program.net.now spot _) kept c.judge-verdict.ensures) in
    let final : Course = record {
      machine = c.step-outcome.new.self.machine;
      steps = c.step-outcome.new.self.steps;
      place = c.step-outcome.new.self.place;
      turns = c.step-outcome.new.self.turns;
      verdict = c.judge-verdict.result;
    } in
    record {
      goes = subst (λ (o : Outcome). Goes program o final) (sym c.in-Returned.is)
          (exit-returned program c.requires.runnable old c.requires.course c.requires.kept c.visit.new.self c.if-not-visit.ensures.kept
          c.step-outcome.new.self.machine did spot tells judged final
          (subst (IsStepOf program old final) c.in-Returned.is
          (record { machine = c.step-outcome.ensures.machine; small = c.step-outcome.ensures.small; steps = c.step-outcome.ensures.steps })) kept);
      counts = c.step-outcome.ensures.steps;
    }

pub next-requires : goal.next-requires
next-requires c = record {
  nested = c.requires.runnable.nested;
  road = c.requires.road;
  place = number-here c.args.program.now (units_done c.args.program.now c.requires.course.machines) c.args.self.now
      (following c.args.program.now c.requires.runnable c.args.self.now c.requires.course c.requires.kept);
}

pub unreachable-requires : goal.unreachable-requires
unreachable-requires c =
    let program = c.args.program.now in
    let old : Course = c.args.self.now in
    let units = units_done program c.requires.course.machines in
    let fol = following program c.requires.runnable old c.requires.course c.requires.kept in
    let spot = c.spot-spot.result.now in
    let zeros : Place = record { context = 0; address = 0; scope = 0 } in
    let tells : IsSpotAt program.image.now old.machine.values.pc spot = spot-here program units old fol spot c.spot-spot.ensures in
    let did : Performed program old c.step-outcome.new.self.machine =
    performed program old c.step-outcome.new.self.machine c.step-outcome.result c.requires.course c.step-outcome.ensures.machine c.in_default.not-Trap in
    let kept : c.judge-verdict.result ≡ Kept = verdict-kept c.judge-verdict.result c.in_default-verdict.not-Broken in
    let judged = sees program spot Kept c.pc-address.result old.machine.values.pc _ fol.place.context
    c.pc-next.result c.step-outcome.new.self.machine.values.pc c.kind-link.result (kind_by spot.link old.machine.values.regs)
    c.last_data-access.result c.step-outcome.new.self.machine.last c.pc-address.ensures
    (context-here program units old fol c.as_slice.result.now zeros c.as_slice.ensures) c.kind-link.ensures c.pc-next.ensures c.last_data-access.ensures
    (subst (IsJudged program.image.now program.net.now spot _) kept c.judge-verdict.ensures) in
    let going : c.step-outcome.result ≡ Going = outcome-going c.step-outcome.result c.in_default.not-Trap c.in_default-outcome.not-Returned in
    let on : record { outcome = Going; machine = c.step-outcome.new.self.machine } ≡ whole_step old.machine =
    subst (λ (o : Outcome). record { outcome = o; machine = c.step-outcome.new.self.machine } ≡ whole_step old.machine) going c.step-outcome.ensures.machine in
    must-lead program c.requires.runnable old c.requires.course c.requires.kept c.visit.new.self c.if-not-visit.ensures.kept
    c.step-outcome.new.self.machine did spot tells judged on
    (λ number arc there leaves behind. c.in-None.ensures.none fol.place.at.place fol.place.at.there number arc there leaves
    (respell program.net.now (kind_by spot.link old.machine.values.regs) c.kind-link.result old.machine.values.pc fol.place.at.place.address
    fol.place.context fol.place.at.place.context c.step-outcome.new.self.machine.values.pc c.pc-next.result arc.to (sym c.kind-link.ensures)
    (sym (fol.place.at.same ∙ fol.address)) (sym fol.place.at.within) (sym c.pc-next.ensures) behind))

pub returns : goal.returns
returns c =
    let program = c.args.program.now in
    let old : Course = c.args.self.now in
    let units = units_done program c.requires.course.machines in
    let fol = following program c.requires.runnable old c.requires.course c.requires.kept in
    let spot = c.spot-spot.result.now in
    let zeros : Place = record { context = 0; address = 0; scope = 0 } in
    let tells : IsSpotAt program.image.now old.machine.values.pc spot = spot-here program units old fol spot c.spot-spot.ensures in
    let did : Performed program old c.step-outcome.new.self.machine =
    performed program old c.step-outcome.new.self.machine c.step-outcome.result c.requires.course c.step-outcome.ensures.machine c.in_default.not-Trap in
    let kept : c.judge-verdict.result ≡ Kept = verdict-kept c.judge-verdict.result c.in_default-verdict.not-Broken in
    let judged = sees program spot Kept c.pc-address.result old.machine.values.pc _ fol.place.context
    c.pc-next.result c.step-outcome.new.self.machine.values.pc c.kind-link.result (kind_by spot.link old.machine.values.regs)
    c.last_data-access.result c.step-outcome.new.self.machine.last c.pc-address.ensures
    (context-here program units old fol c.as_slice.result.now zeros c.as_slice.ensures) c.kind-link.ensures c.pc-next.ensures c.last_data-access.ensures
    (subst (IsJudged program.image.now program.net.now spot _) kept c.judge-verdict.ensures) in
    let going : c.step-outcome.result ≡ Going = outcome-going c.step-outcome.result c.in_default.not-Trap c.in_default-outcome.not-Returned in
    let on : record { outcome = Going; machine = c.step-outcome.new.self.machine } ≡ whole_step old.machine =
    subst (λ (o : Outcome). record { outcome = o; machine = c.step-outcome.new.self.machine } ≡ whole_step old.machine) going c.step-outcome.ensures.machine in
    let final : Course = record {
      machine = c.step-outcome.new.self.machine;
      steps = c.step-outcome.new.self.steps;
      place = c.in-Some.behind;
      turns = c.step-outcome.new.self.turns;
      verdict = c.judge-verdict.result;
    } in
    record {
      goes = subst (λ (o : Outcome). Goes program o final) (sym going)
          (exit-going program c.requires.runnable old c.requires.course c.requires.kept c.visit.new.self c.if-not-visit.ensures.kept
          c.step-outcome.new.self.machine did spot tells judged on final refl
          (subst (IsStepOf program old final) going
          (record { machine = c.step-outcome.ensures.machine; small = c.step-outcome.ensures.small; steps = c.step-outcome.ensures.steps })) kept
          c.step-outcome.ensures.turns c.visit.ensures.sized
          (respell program.net.now c.kind-link.result (kind_by spot.link old.machine.values.regs) fol.place.at.place.address old.machine.values.pc
          fol.place.at.place.context fol.place.context c.pc-next.result c.step-outcome.new.self.machine.values.pc c.in-Some.behind c.kind-link.ensures
          (fol.place.at.same ∙ fol.address) fol.place.at.within c.pc-next.ensures
          (c.in-Some.ensures.some fol.place.at.place fol.place.at.there)));
      counts = c.step-outcome.ensures.steps;
    }
