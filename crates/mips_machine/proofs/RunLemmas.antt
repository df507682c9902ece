-- A run of the machine is a run over plain values; its cycles are those of its units by themselves and of their
-- accesses, one after the other.
use Rattle.std.proofs.Common.{◌≡◌, ℕ, ◌+◌, List, [], ◌∷◌, ◌++◌, Option, subst, sym, refl, ap, ap₂, ◌∙◌, arith}
use Rattle.std.proofs.Math.Path.{fun_ext}
use Rattle.std.proofs.lemmas.List.Sums.{sum_by-cons}
use Rattle.cache_config.specs.declared.profile.Cycles.{Cycles}
use Rattle.cache_config.specs.Chains.{side_of}
use Rattle.mips_decode.specs.Accesses.{UnitAccess, accesses_by}
use Rattle.mips_decode.specs.State.{code_at}
use Rattle.mips_decode.specs.Step.{Stepped, Went, Returned, Trapped, value_step}
use Rattle.mips_decode.specs.Calls.{calls_after}
use Rattle.mips_decode.specs.Run.{IsRun, Joins}
use Rattle.mips_decode.specs.Transfer.{Call}
use Rattle.mips_decode.specs.Units.{RunUnit, units_from}
use Rattle.mips_machine.specs.Machine.{Machine, after}
use Rattle.mips_machine.specs.Passing.{Tallied, access_costs, passed, passed_all}
use Rattle.mips_machine.specs.Run.{Follows, IsMachineRun, accesses_along, last_machine, own_costs, run_cost, step_cost, values_of}
use Rattle.mips_machine.proofs.KeptCode.{value_step-code}

-- Accesses behind others find the caches as those left them.
pub passed_all-append : (first more : List UnitAccess) (caches : Tallied) →
    passed_all (first ++ more) caches ≡ passed_all more (passed_all first caches)
passed_all-append [] more caches = refl
passed_all-append (access ∷ first) more caches = passed_all-append first more (passed (side_of access.kind) access.address caches)

pub access_costs-append : (first more : List UnitAccess) (caches : Tallied) →
    access_costs (first ++ more) caches ≡ access_costs first caches + access_costs more (passed_all first caches)
access_costs-append [] more caches = omega arith
access_costs-append (access ∷ first) more caches =
    let rest = access_costs-append first more (passed (side_of access.kind) access.address caches) in
    omega (arith, rest)

-- What a machine's step says of its values, its cycles and its caches.
record Moves (m n : Machine) (step : Stepped) (later : List Machine) : Type 0 where
  values : Joins step n.values (values_of later)
  cycles : n.cycles ≡ m.cycles + (step_cost m.classes m.store step + access_costs (accesses_by m.values.pc step) m.caches)
  classes : n.classes ≡ m.classes
  store : n.store ≡ m.store
  caches : n.caches ≡ passed_all (accesses_by m.values.pc step) m.caches

moves : (m n : Machine) (step : Stepped) (later : List Machine) →
    (after m step).machine ≡ n → Follows (after m step).outcome later → Moves m n step later
moves m n (Went done s) later goes follows = record {
  values = ap (λ (k : Machine). k.values) goes;
  cycles = ap (λ (k : Machine). k.cycles) (sym goes);
  classes = ap (λ (k : Machine). k.classes) (sym goes);
  store = ap (λ (k : Machine). k.store) (sym goes);
  caches = ap (λ (k : Machine). k.caches) (sym goes);
}
moves m n (Returned done s) later goes follows = record {
  values = (ap (λ (k : Machine). k.values) goes, ap values_of follows);
  cycles = ap (λ (k : Machine). k.cycles) (sym goes);
  classes = ap (λ (k : Machine). k.classes) (sym goes);
  store = ap (λ (k : Machine). k.store) (sym goes);
  caches = ap (λ (k : Machine). k.caches) (sym goes);
}
moves m n (Trapped kind address) later goes follows = absurd follows

-- A run of the machine over the executable words that it started with.
pub record RunsAs (code : ℕ → Option ℕ) (open_calls : List Call) (m : Machine) (machines : List Machine) : Type 0 where
  pub run : IsRun code m.values (values_of machines)
  pub cycles : (last_machine m machines).cycles
      ≡ m.cycles + run_cost m.classes m.store m.caches (units_from code open_calls m.values (values_of machines))
  pub caches : (last_machine m machines).caches
      ≡ passed_all (accesses_along (units_from code open_calls m.values (values_of machines))) m.caches

pub runs_as : (code : ℕ → Option ℕ) (open_calls : List Call) (m : Machine) (machines : List Machine) →
    code_at m.values.regions ≡ code → IsMachineRun m machines → RunsAs code open_calls m machines
runs_as code open_calls m [] same run = record { run = tt; cycles = omega arith; caches = refl }
runs_as code open_calls m (n ∷ later) same run =
    let step : Moves m n (value_step (code_at m.values.regions) m.values) later =
    moves m n (value_step (code_at m.values.regions) m.values) later run.0 run.1 in
    let kept : code_at n.values.regions ≡ code_at m.values.regions =
    fun_ext (value_step-code (code_at m.values.regions) m.values n.values (values_of later) step.values) in
    let did : Stepped = value_step code m.values in
    let after : List Call = calls_after open_calls did in
    let rest : RunsAs code after n later = runs_as code after n later (kept ∙ same) run.2 in
    let step' : Moves m n did later =
    subst (λ (words : ℕ → Option ℕ). Moves m n (value_step words m.values) later) same step in
    let more : List RunUnit = units_from code after n.values (values_of later) in
    let unit : RunUnit = record { at = record { calls = open_calls; address = m.values.pc }; step = did } in
    let made : List UnitAccess = accesses_by m.values.pc did in
    let own : own_costs n.classes n.store more ≡ own_costs m.classes m.store more =
    ap₂ (λ (classes : Cycles) (store : ℕ). own_costs classes store more) step'.classes step'.store in
    let accesses : access_costs (accesses_along more) n.caches ≡ access_costs (accesses_along more) (passed_all made m.caches) =
    ap (access_costs (accesses_along more)) step'.caches in
    let sum : own_costs m.classes m.store (unit ∷ more) ≡ step_cost m.classes m.store did + own_costs m.classes m.store more =
    sum_by-cons (λ (u : RunUnit). step_cost m.classes m.store u.step) unit more in
    let both : access_costs (accesses_along (unit ∷ more)) m.caches
    ≡ access_costs made m.caches + access_costs (accesses_along more) (passed_all made m.caches) =
    access_costs-append made (accesses_along more) m.caches in
    record {
      run = (step'.values, rest.run);
      cycles = omega (arith, rest.cycles, step'.cycles, own, accesses, sum, both);
      caches = rest.caches ∙ ap (passed_all (accesses_along more)) step'.caches
          ∙ sym (passed_all-append made (accesses_along more) m.caches);
    }
