-- What is told of a run that came to its end.
use Rattle.std.proofs.Common.{◌≡◌, ℕ, ◌<◌, ◌≤◌, List, [], ◌∷◌, ◌++◌, Option, Result, Ok, Err, ap, sym, subst, ◌∙◌, arith}
use Rattle.std.specs.Prelude.{IfOk}
use Rattle.mips_decode.specs.Units.{RunUnit, units_of}
use Rattle.mips_decode.specs.declared.step.TrapKind.{TrapKind}
use Rattle.mips_machine.specs.declared.outcome.Outcome.TheVariants.{Trap}
use Rattle.mips_machine.specs.Machine.{IsMachineStart, Machine, whole_step}
use Rattle.mips_machine.specs.Run.{last_machine, values_of}
use Rattle.image_run.specs.declared.course.Course.{Course}
use Rattle.image_run.specs.declared.course.Program.{Program}
use Rattle.image_run.specs.declared.report.RunReport.{RunReport}
use Rattle.image_run.specs.declared.report.Stop.{Stop}
use Rattle.image_run.specs.declared.report.Stop.TheVariants as stop
use Rattle.image_run.specs.declared.report.Verdict.{Verdict}
use Rattle.image_run.specs.declared.report.Verdict.TheVariants.{Kept, Broken}
use Rattle.image_run.specs.Course.{IsCourse, IsFollowed, IsReturned, IsTrapped, machine_of, units_done}
use Rattle.image_run.specs.Reports.{IsHeadlineRun, IsReport, IsStop, units_along, units_visited}
use Rattle.image_run.specs.Verdicts.{IsVerdict, KeepAll}
use Rattle.image_run.proofs.Beginning.{start-code}
use Rattle.image_run.proofs.Breaking.{kept-verdict}
use Rattle.image_run.proofs.Growing.{going-run}

-- What a report takes from a course.
pub record IsOf (course : Course) (end : Stop) (report : RunReport) : Type 0 where
  pub stop : report.stop ≡ end
  pub cycles : report.cycles ≡ course.machine.cycles
  pub steps : report.steps ≡ course.steps
  pub caches : report.caches ≡ course.machine.caches.tallies
  pub verdict : report.verdict ≡ course.verdict

pub report-of : {E : Type 0} (P : RunReport → Type 0) (course : Course) (end : Stop) (result : Result RunReport E) →
    IfOk result (λ (r : RunReport). r.stop ≡ end) → IfOk result (λ (r : RunReport). r.cycles ≡ course.machine.cycles) →
    IfOk result (λ (r : RunReport). r.steps ≡ course.steps) → IfOk result (λ (r : RunReport). r.caches ≡ course.machine.caches.tallies) →
    IfOk result (λ (r : RunReport). r.verdict ≡ course.verdict) → ((r : RunReport) → IsOf course end r → P r) → IfOk result P
report-of P course end (Ok r) a b d e f each = each r (record { stop = a; cycles = b; steps = d; caches = e; verdict = f })
report-of P course end (Err other) a b d e f each = tt

-- The units by the words of the start are those by the words of the image.
along-done : (program : Program) (machines : List Machine) → IsMachineStart program.image.now program.profile.now program.entry (machine_of program) →
    units_along (machine_of program) machines ≡ units_done program machines
along-done program machines start =
    ap (λ (words : ℕ → Option ℕ). units_of words (machine_of program).values (values_of machines))
    (start-code program.image.now program.profile.now program.entry (machine_of program) start)

pub returned-report : (program : Program) (course : Course) (report : RunReport) → IsReturned program course → course.steps ≤ program.profile.now.steps →
    IsOf course stop.Returned report → IsReport program.image.now program.profile.now program.entry report
returned-report program course report is few of =
    let m : Machine = machine_of program in
    let count = is.steps in
    let told : IsVerdict program.image.now program.entry (units_visited report.stop m is.machines) report.verdict =
    subst (λ (end : Stop). IsVerdict program.image.now program.entry (units_visited end m is.machines) report.verdict) (sym of.stop)
    (subst (IsVerdict program.image.now program.entry (units_along m is.machines)) (sym of.verdict)
    (subst (λ (units : List RunUnit). IsVerdict program.image.now program.entry units course.verdict)
    (sym (along-done program is.machines is.start)) is.verdict)) in
    record {
      machines = is.machines;
      run = is.run;
      stop = subst (IsStop program.profile.now.steps m is.machines) (sym of.stop) (is.returned, omega (arith, count, few));
      steps = of.steps ∙ sym is.steps;
      cycles = of.cycles ∙ ap (λ (k : Machine). k.cycles) (sym is.last);
      caches = of.caches ∙ ap (λ (k : Machine). k.caches.tallies) (sym is.last);
      verdict = told;
      kept = kept-verdict program.image.now program.entry (units_visited report.stop m is.machines) report.verdict told;
    }

pub trapped-report : (program : Program) (course : Course) (report : RunReport) (kind : TrapKind) (address : ℕ) →
    IsTrapped program kind address course → course.steps < program.profile.now.steps → IsOf course (stop.Trap kind address) report →
    IsReport program.image.now program.profile.now program.entry report
trapped-report program course report kind address is few of =
    let m : Machine = machine_of program in
    let count = is.steps in
    let trap : (whole_step (last_machine m is.machines)).outcome ≡ Trap kind address =
    ap (λ (k : Machine). (whole_step k).outcome) is.last ∙ is.trap in
    let told : IsVerdict program.image.now program.entry (units_visited report.stop m is.machines) report.verdict =
    subst (λ (end : Stop). IsVerdict program.image.now program.entry (units_visited end m is.machines) report.verdict) (sym of.stop)
    (subst (IsVerdict program.image.now program.entry (units_along m (is.machines ++ last_machine m is.machines ∷ []))) (sym of.verdict)
    (subst (λ (k : Machine). IsVerdict program.image.now program.entry (units_along m (is.machines ++ k ∷ [])) course.verdict) (sym is.last)
    (subst (λ (units : List RunUnit). IsVerdict program.image.now program.entry units course.verdict)
    (sym (along-done program (is.machines ++ course.machine ∷ []) is.start)) is.verdict))) in
    record {
      machines = is.machines;
      run = going-run m is.machines is.going;
      stop = subst (IsStop program.profile.now.steps m is.machines) (sym of.stop) (is.going, trap, omega (arith, count, few));
      steps = of.steps ∙ sym is.steps;
      cycles = of.cycles ∙ ap (λ (k : Machine). k.cycles) (sym is.last);
      caches = of.caches ∙ ap (λ (k : Machine). k.caches.tallies) (sym is.last);
      verdict = told;
      kept = kept-verdict program.image.now program.entry (units_visited report.stop m is.machines) report.verdict told;
    }

-- What is followed is the verdict so far.
followed-verdict : (program : Program) (units : List RunUnit) (course : Course) (verdict : Verdict) → IsFollowed program units course verdict →
    IsVerdict program.image.now program.entry units verdict
followed-verdict program units course Kept is = is.kept
followed-verdict program units course (Broken kind address) is = is

pub steps-report : (program : Program) (course : Course) (report : RunReport) → IsCourse program course → course.steps ≡ program.profile.now.steps →
    IsOf course stop.Steps report → IsReport program.image.now program.profile.now program.entry report
steps-report program course report is all of =
    let m : Machine = machine_of program in
    let told : IsVerdict program.image.now program.entry (units_visited report.stop m is.machines) report.verdict =
    subst (λ (end : Stop). IsVerdict program.image.now program.entry (units_visited end m is.machines) report.verdict) (sym of.stop)
    (subst (IsVerdict program.image.now program.entry (units_along m is.machines)) (sym of.verdict)
    (subst (λ (units : List RunUnit). IsVerdict program.image.now program.entry units course.verdict)
    (sym (along-done program is.machines is.start))
    (followed-verdict program (units_done program is.machines) course course.verdict is.verdict))) in
    record {
      machines = is.machines;
      run = going-run m is.machines is.going;
      stop = subst (IsStop program.profile.now.steps m is.machines) (sym of.stop) (is.going, is.steps ∙ all);
      steps = of.steps ∙ sym is.steps;
      cycles = of.cycles ∙ ap (λ (k : Machine). k.cycles) (sym is.last);
      caches = of.caches ∙ ap (λ (k : Machine). k.caches.tallies) (sym is.last);
      verdict = told;
      kept = kept-verdict program.image.now program.entry (units_visited report.stop m is.machines) report.verdict told;
    }

-- A run that returned and kept all rules is one that the headline speaks of.
pub headline-run : (program : Program) (course : Course) (report : RunReport) → IsReturned program course → IsOf course stop.Returned report →
    report.verdict ≡ Kept → IsHeadlineRun program.image.now program.profile.now program.entry report
headline-run program course report is of kept =
    let m : Machine = machine_of program in
    let all : KeepAll program.image.now program.entry (units_along m is.machines) =
    subst (KeepAll program.image.now program.entry) (sym (along-done program is.machines is.start))
    (subst (IsVerdict program.image.now program.entry (units_done program is.machines)) (sym of.verdict ∙ kept) is.verdict) in
    record {
      m = m;
      machines = is.machines;
      start = is.start;
      run = is.run;
      records = all.records;
      callers = all.callers;
      returned = is.returned;
      cycles = of.cycles ∙ ap (λ (k : Machine). k.cycles) (sym is.last);
    }
