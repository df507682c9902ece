-- A run that goes on by one unit.
use Rattle.std.proofs.Common.{◌≡◌, ℕ, ◌+◌, List, [], ◌∷◌, ◌++◌, length, Option, refl, ap, sym, subst, ◌∙◌, arith}
use Rattle.mips_decode.specs.Run.{last_state}
use Rattle.mips_decode.specs.State.{State}
use Rattle.mips_decode.specs.Step.{value_step}
use Rattle.mips_decode.specs.Units.{RunUnit, Stand, stand_after, stand_end, units_of}
use Rattle.mips_decode.proofs.UnitsEnd.{units-grow}
use Rattle.mips_machine.specs.declared.outcome.Outcome.{Outcome}
use Rattle.mips_machine.specs.declared.outcome.Outcome.TheVariants.{Going, Returned as HasEnded}
use Rattle.mips_machine.specs.Machine.{After, Machine, whole_step}
use Rattle.mips_machine.specs.Run.{Follows, IsMachineRun, last_machine, values_of}
use Rattle.image_run.specs.Reports.{AreGoing}

pub last-more : (m : Machine) (machines : List Machine) (n : Machine) → last_machine m (machines ++ n ∷ []) ≡ n
last-more m [] n = refl
last-more m (k ∷ machines) n = last-more k machines n

pub values-more : (machines : List Machine) (n : Machine) → values_of (machines ++ n ∷ []) ≡ values_of machines ++ n.values ∷ []
values-more [] n = refl
values-more (k ∷ machines) n = ap (λ (ss : List State). k.values ∷ ss) (values-more machines n)

pub length-more : (machines : List Machine) (n : Machine) → length (machines ++ n ∷ []) ≡ length machines + 1
length-more [] n = refl
length-more (k ∷ machines) n = let rest = length-more machines n in omega (arith, rest)

pub last-values : (m : Machine) (machines : List Machine) → last_state m.values (values_of machines) ≡ (last_machine m machines).values
last-values m [] = refl
last-values m (k ∷ machines) = last-values k machines

pub going-more : (m : Machine) (machines : List Machine) (n : Machine) → AreGoing m machines →
    whole_step (last_machine m machines) ≡ record { outcome = Going; machine = n } → AreGoing m (machines ++ n ∷ [])
going-more m [] n going step = (step, tt)
going-more m (k ∷ machines) n going step = (going.0, going-more k machines n going.1 step)

-- Such a run is one of the machine, also with a last unit by which the entry returns.
pub going-run : (m : Machine) (machines : List Machine) → AreGoing m machines → IsMachineRun m machines
going-run m [] going = tt
going-run m (n ∷ machines) going = (
  ap (λ (a : After). a.machine) going.0,
  subst (λ (o : Outcome). Follows o machines) (sym (ap (λ (a : After). a.outcome) going.0)) tt,
  going-run n machines going.1,
)

pub returned-run : (m : Machine) (machines : List Machine) (n : Machine) → AreGoing m machines →
    whole_step (last_machine m machines) ≡ record { outcome = HasEnded; machine = n } → IsMachineRun m (machines ++ n ∷ [])
returned-run m [] n going step = (
  ap (λ (a : After). a.machine) step,
  subst (λ (o : Outcome). Follows o []) (sym (ap (λ (a : After). a.outcome) step)) refl,
  tt,
)
returned-run m (k ∷ machines) n going step = (
  ap (λ (a : After). a.machine) going.0,
  subst (λ (o : Outcome). Follows o (machines ++ n ∷ [])) (sym (ap (λ (a : After). a.outcome) going.0)) tt,
  returned-run k machines n going.1 step,
)

-- ---- The unit that is done next.
abbrev pub next_unit : (ℕ → Option ℕ) → Stand → List RunUnit → State → RunUnit
next_unit code stand units s = record {
  at = record { calls = (stand_end stand units).calls; address = s.pc };
  step = value_step code s;
}

abbrev pub start_stand : State → Stand
start_stand s = record { calls = []; address = s.pc }

pub units-more : (code : ℕ → Option ℕ) (m : Machine) (machines : List Machine) (n : Machine) →
    units_of code m.values (values_of (machines ++ n ∷ []))
    ≡ units_of code m.values (values_of machines)
    ++ next_unit code (start_stand m.values) (units_of code m.values (values_of machines)) (last_machine m machines).values ∷ []
units-more code m machines n =
    ap (units_of code m.values) (values-more machines n)
    ∙ units-grow code [] m.values (values_of machines) n.values
    ∙ ap (λ (s : State). units_of code m.values (values_of machines)
    ++ next_unit code (start_stand m.values) (units_of code m.values (values_of machines)) s ∷ []) (last-values m machines)

pub stand-more : (stand : Stand) (units : List RunUnit) (unit : RunUnit) → stand_end stand (units ++ unit ∷ []) ≡ stand_after unit
stand-more stand [] unit = refl
stand-more stand (u ∷ units) unit = stand-more (stand_after u) units unit
