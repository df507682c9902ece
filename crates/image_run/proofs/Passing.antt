-- One unit more: what it leaves of a run on its way.
use Rattle.std.proofs.Common.{◌≡◌, ℕ, ◌+◌, ◌*◌, ◌<◌, ◌≤◌, List, [], ◌∷◌, ◌++◌, length, refl, ap, sym, subst, ◌∙◌, arith}
use Rattle.std.proofs.Math.Path.{fun_ext}
use Rattle.elf_mips.specs.Segments.{code_at as image_code}
use Rattle.mips_decode.specs.Run.{Joins}
use Rattle.mips_decode.specs.State.{State, code_at, return_address}
use Rattle.mips_decode.specs.Step.{Done, Stepped, Went, Returned as Ended, Trapped, value_step}
use Rattle.mips_decode.specs.Units.{RunUnit}
use Rattle.mips_decode.specs.declared.step.TrapKind.{TrapKind}
use Rattle.mips_machine.specs.declared.outcome.Outcome.{Outcome}
use Rattle.mips_machine.specs.declared.outcome.Outcome.TheVariants.{Going, Returned, Trap}
use Rattle.mips_machine.specs.Machine.{After, Machine, after, done_by, whole_step}
use Rattle.mips_machine.specs.Run.{last_machine, values_of}
use Rattle.mips_machine.proofs.KeptCode.{value_step-code}
use Rattle.image_run.specs.Course.{Goes, IsCourse, IsFollowed, counted, machine_of, most_of_unit, stand_behind, units_done}
use Rattle.image_run.specs.declared.course.Course.{Course}
use Rattle.image_run.specs.declared.course.Program.{Program}
use Rattle.image_run.specs.Verdicts.{IsVerdict}
use Rattle.image_run.proofs.Doing.{Ends, step-ends}
use Rattle.image_run.proofs.Tallying.{HasTallies, done-tallies}
use Rattle.image_run.proofs.Growing.{going-more, last-more, last-values, length-more, returned-run, units-more}

-- What the machine did, by what it told.
pub record WentOn (m n : Machine) (step : Stepped) : Type 0 where
  pub done : Done
  pub next : State
  pub took : step ≡ Went done next
  pub machine : n ≡ done_by m done next

pub record EndedBy (m n : Machine) (step : Stepped) : Type 0 where
  pub done : Done
  pub next : State
  pub took : step ≡ Ended done next
  pub machine : n ≡ done_by m done next

pub went-on : (m n : Machine) (step : Stepped) → record { outcome = Going; machine = n } ≡ after m step → WentOn m n step
went-on m n (Went done t) same = record { done = done; next = t; took = refl; machine = ap (λ (a : After). a.machine) same }
went-on m n (Ended done t) same = absurd (let no = ap (λ (a : After). a.outcome) same in cc)
went-on m n (Trapped kind address) same = absurd (let no = ap (λ (a : After). a.outcome) same in cc)

pub ended-by : (m n : Machine) (step : Stepped) → record { outcome = Returned; machine = n } ≡ after m step → EndedBy m n step
ended-by m n (Went done t) same = absurd (let no = ap (λ (a : After). a.outcome) same in cc)
ended-by m n (Ended done t) same = record { done = done; next = t; took = refl; machine = ap (λ (a : After). a.machine) same }
ended-by m n (Trapped kind address) same = absurd (let no = ap (λ (a : After). a.outcome) same in cc)

-- A trap leaves the machine as it was.
pub record TrappedBy (m n : Machine) (kind : TrapKind) (address : ℕ) (step : Stepped) : Type 0 where
  pub took : step ≡ Trapped kind address
  pub machine : n ≡ m

pub trapped-by : (m n : Machine) (kind : TrapKind) (address : ℕ) (step : Stepped) →
    record { outcome = Trap kind address; machine = n } ≡ after m step → TrappedBy m n kind address step
trapped-by m n kind address (Went done t) same = absurd (let no = ap (λ (a : After). a.outcome) same in cc)
trapped-by m n kind address (Ended done t) same = absurd (let no = ap (λ (a : After). a.outcome) same in cc)
trapped-by m n kind address (Trapped other place) same =
    let told = ap (λ (a : After). a.outcome) same in
    record { took = cc; machine = ap (λ (a : After). a.machine) same }

-- ---- The unit that comes next, and the units with it.
abbrev pub coming : Program → List Machine → Machine → RunUnit
coming program machines m = record {
  at = record { calls = (stand_behind program (units_done program machines)).calls; address = m.values.pc };
  step = value_step (image_code program.image.now.segments) m.values;
}

pub units-coming : (program : Program) (machines : List Machine) (m n : Machine) → last_machine (machine_of program) machines ≡ m →
    units_done program (machines ++ n ∷ []) ≡ units_done program machines ++ coming program machines m ∷ []
units-coming program machines m n last =
    units-more (image_code program.image.now.segments) (machine_of program) machines n
    ∙ ap (λ (k : Machine). units_done program machines ++ coming program machines k ∷ []) last

-- What a unit tells of the verdict, by how it ended.
abbrev pub IsToldBy : Program → List RunUnit → Outcome → Course → Type 0
IsToldBy program units Going course = IsFollowed program units course course.verdict
IsToldBy program units Returned course = IsVerdict program.image.now program.entry units course.verdict
IsToldBy program units (Trap kind address) course = IsVerdict program.image.now program.entry units course.verdict

-- What the step of a course says.
pub record IsStepOf (program : Program) (c d : Course) (outcome : Outcome) : Type 0 where
  pub machine : record { outcome = outcome; machine = d.machine } ≡ whole_step c.machine
  pub small : d.machine.cycles ≤ c.machine.cycles + most_of_unit
  pub steps : d.steps ≡ counted outcome c.steps

pub goes : (program : Program) (c d : Course) (outcome : Outcome) (is : IsCourse program c) → IsStepOf program c d outcome →
    IsToldBy program (units_done program is.machines ++ coming program is.machines c.machine ∷ []) outcome d →
    Goes program outcome d
goes program c d Going is step told =
    let words = code_at c.machine.values.regions in
    let on = went-on c.machine d.machine (value_step words c.machine.values) step.machine in
    let values : on.next ≡ d.machine.values = ap (λ (m : Machine). m.values) (sym on.machine) in
    let kept : code_at d.machine.values.regions ≡ words =
    fun_ext (value_step-code words c.machine.values d.machine.values [] (subst (λ (s : Stepped). Joins s d.machine.values []) (sym on.took) values)) in
    let count = length-more is.machines d.machine in
    let before = is.steps in
    let now = step.steps in
    let most = is.cycles in
    let small = step.small in
    let own : d.steps * most_of_unit ≡ c.steps * most_of_unit + most_of_unit = omega (arith, now) in
    record {
      start = is.start;
      tallies = done-tallies c.machine d.machine on.done on.next on.machine is.tallies;
      machines = is.machines ++ d.machine ∷ [];
      going = going-more (machine_of program) is.machines d.machine is.going (ap whole_step is.last ∙ sym step.machine);
      last = last-more (machine_of program) is.machines d.machine;
      steps = omega (arith, count, before, now);
      cycles = omega (arith, own, most, small);
      code = kept ∙ is.code;
      verdict = subst (λ (units : List RunUnit). IsFollowed program units d d.verdict)
          (sym (units-coming program is.machines c.machine d.machine is.last)) told;
    }
goes program c d Returned is step told =
    let words = code_at c.machine.values.regions in
    let by = ended-by c.machine d.machine (value_step words c.machine.values) step.machine in
    let place : by.next.pc ≡ return_address = subst Ends by.took (step-ends words c.machine.values) in
    let values : by.next ≡ d.machine.values = ap (λ (m : Machine). m.values) (sym by.machine) in
    let count = length-more is.machines d.machine in
    let before = is.steps in
    let now = step.steps in
    record {
      start = is.start;
      tallies = done-tallies c.machine d.machine by.done by.next by.machine is.tallies;
      machines = is.machines ++ d.machine ∷ [];
      run = returned-run (machine_of program) is.machines d.machine is.going (ap whole_step is.last ∙ sym step.machine);
      last = last-more (machine_of program) is.machines d.machine;
      steps = omega (arith, count, before, now);
      returned = record {
        moved = moved is.machines d.machine;
        place = ap (λ (s : State). s.pc) (last-values (machine_of program) (is.machines ++ d.machine ∷ []))
            ∙ ap (λ (m : Machine). m.values.pc) (last-more (machine_of program) is.machines d.machine)
            ∙ ap (λ (s : State). s.pc) (sym values) ∙ place;
      };
      verdict = subst (λ (units : List RunUnit). IsVerdict program.image.now program.entry units d.verdict)
          (sym (units-coming program is.machines c.machine d.machine is.last)) told;
    }
  where
    moved : (machines : List Machine) (n : Machine) → 0 < length (values_of (machines ++ n ∷ []))
    moved [] n = omega arith
    moved (k ∷ machines) n = omega arith
goes program c d (Trap kind address) is step told =
    let by = trapped-by c.machine d.machine kind address (value_step (code_at c.machine.values.regions) c.machine.values) step.machine in
    record {
      start = is.start;
      tallies = subst (λ (m : Machine). HasTallies m.caches) (sym by.machine) is.tallies;
      machines = is.machines;
      going = is.going;
      last = is.last ∙ sym by.machine;
      steps = is.steps ∙ sym step.steps;
      trap = ap (λ (m : Machine). (whole_step m).outcome) by.machine ∙ ap (λ (a : After). a.outcome) (sym step.machine);
      verdict = subst (λ (units : List RunUnit). IsVerdict program.image.now program.entry units d.verdict)
          (sym (units-coming program is.machines c.machine d.machine is.last)) told;
    }
