-- Runs of the machine: lists of machines that the whole step joins.
use Rattle.std.specs.Prelude.{◌≡◌, ℕ, ◌+◌, List, [], ◌∷◌, flat_map, map, sum_by}
use Rattle.mips_decode.specs.State.{State}
use Rattle.mips_machine.specs.declared.outcome.Outcome.{Outcome}
use Rattle.mips_machine.specs.declared.outcome.Outcome.TheVariants.{Going, Returned, Trap}
use Rattle.mips_decode.specs.Step.{Stepped, Went, Returned as Ended, Trapped}
use Rattle.mips_decode.specs.Units.{RunUnit}
use Rattle.mips_decode.specs.Accesses.{UnitAccess, accesses_by}
use Rattle.cache_config.specs.declared.profile.Cycles.{Cycles}
use Rattle.mips_machine.specs.Machine.{Machine, own_cost, whole_step}
use Rattle.mips_machine.specs.Passing.{Tallied, access_costs}

-- A step that told this leads to a machine, after which the run has these further ones.
abbrev pub Follows : Outcome → List Machine → Type 0
Follows Going later = Unit {0}
Follows Returned later = later ≡ []
Follows (Trap kind address) later = ⊥

-- A run of the machine: the machines after each of its units, in order. It may stop at any of them.
abbrev pub IsMachineRun : Machine → List Machine → Type 0
IsMachineRun m [] = Unit {0}
IsMachineRun m (n ∷ later) =
    ((whole_step m).machine ≡ n) × Follows (whole_step m).outcome later × IsMachineRun n later

-- The machine at which a run stops.
abbrev pub last_machine : Machine → List Machine → Machine
last_machine m [] = m
last_machine m (n ∷ later) = last_machine n later

-- The values along a run.
abbrev pub values_of : List Machine → List State
values_of machines = map (λ (m : Machine). m.values) machines

-- The cycles of a step by its values alone: a trap costs nothing.
abbrev pub step_cost : Cycles → (store : ℕ) → Stepped → ℕ
step_cost classes store (Went done s) = own_cost classes store done.instructions done.access
step_cost classes store (Ended done s) = own_cost classes store done.instructions done.access
step_cost classes store (Trapped kind trapped) = 0

-- The cycles of units by themselves.
abbrev pub own_costs : Cycles → (store : ℕ) → List RunUnit → ℕ
own_costs classes store units = sum_by (λ (unit : RunUnit). step_cost classes store unit.step) units

-- The accesses that units make, one after the other.
abbrev pub accesses_along : List RunUnit → List UnitAccess
accesses_along units = flat_map (λ (unit : RunUnit). accesses_by unit.at.address unit.step) units

-- The cycles of a run whose units begin with these caches: those of its units by themselves, and those of all its
-- accesses.
abbrev pub run_cost : Cycles → (store : ℕ) → Tallied → List RunUnit → ℕ
run_cost classes store caches units = own_costs classes store units + access_costs (accesses_along units) caches
