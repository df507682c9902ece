-- The machine: the values of a program with the cycles that it has taken, and the step of one unit.
use Rattle.std.specs.Prelude.{◌≡◌, ℕ, ◌+◌, ◌==◌, List, length, replicate, sum_by, None, Some, Option, if◌then◌else◌}
use Rattle.cache_config.specs.declared.profile.Profile.{Profile}
use Rattle.cache_config.specs.declared.profile.Cycles.{Cycles}
use Rattle.cache_config.specs.Instructions.{cycles_of}
use Rattle.elf_mips.specs.declared.image.Image.{Image}
use Rattle.lru_concrete.specs.Chains.{Hierarchy, levels_of}
use Rattle.mips_decode.specs.declared.instr.Instr.{Instr}
use Rattle.mips_decode.specs.declared.step.Regs.{Regs}
use Rattle.mips_decode.specs.declared.step.Touched.{Touched}
use Rattle.mips_decode.specs.State.{State, code_at, return_address}
use Rattle.mips_decode.specs.Accesses.{accesses_of}
use Rattle.mips_decode.specs.Columns.{class_of}
use Rattle.mips_decode.specs.Start.{IsStart}
use Rattle.mips_decode.specs.Step.{Done, Stepped, Went, Returned, Trapped, value_step}
use Rattle.mips_machine.specs.declared.fill.Fill.{Fill}
use Rattle.mips_machine.specs.declared.outcome.Outcome.{Outcome}
use Rattle.mips_machine.specs.declared.outcome.Outcome.TheVariants.{Going, Returned as HasEnded, Trap}
use Rattle.mips_machine.specs.Image.{regions_of, registers_at_start, setting_of, with_fills}
use Rattle.mips_machine.specs.Passing.{Tallied, access_costs, no_visits, passed_all}

-- A store takes its latency, whatever lies in the caches.
abbrev pub store_cost : (store : ℕ) → Option Touched → ℕ
store_cost store None = 0
store_cost store (Some touched) = if touched.store then store else 0

-- The cycles of a unit by its values alone: those of the classes of its instructions, and the latency of its store.
abbrev pub own_cost : Cycles → (store : ℕ) → List Instr → Option Touched → ℕ
own_cost classes store instructions access =
    sum_by (λ (instr : Instr). cycles_of classes (class_of instr)) instructions + store_cost store access

-- The machine's values, the cycles since the start, the load or store of the last unit, what a class of instructions
-- and a store take, and the caches.
pub record Machine : Type 0 where
  pub values : State
  pub cycles : ℕ
  pub last : Option Touched
  pub classes : Cycles
  pub store : ℕ
  pub caches : Tallied

-- The cycles of a unit that the machine does, in these two parts.
abbrev pub cost : Machine → Done → ℕ
cost m done =
    own_cost m.classes m.store done.instructions done.access
    + access_costs (accesses_of m.values.pc done) m.caches

-- What a step tells, with the machine after it.
pub record After : Type 0 where
  pub outcome : Outcome
  pub machine : Machine

-- The machine after a unit that leaves these values: its accesses went through the caches, in their order.
abbrev pub done_by : Machine → Done → State → Machine
done_by m done s = record m {
  values = s;
  cycles = m.cycles + cost m done;
  last = done.access;
  caches = passed_all (accesses_of m.values.pc done) m.caches;
}

-- The machine that goes on to an address, after this load or store.
abbrev pub moved : Machine → (next : ℕ) → Option Touched → After
moved m next access =
    record {
      outcome = (if next == return_address then HasEnded else Going);
      machine = record m { values = record m.values { pc = next }; last = access };
    }

-- A trap changes nothing.
abbrev pub after : Machine → Stepped → After
after m (Went done s) = record { outcome = Going; machine = done_by m done s }
after m (Returned done s) = record { outcome = HasEnded; machine = done_by m done s }
after m (Trapped kind address) = record { outcome = Trap kind address; machine = m }

-- One unit: its words are the executable words of the machine's own regions.
abbrev pub whole_step : Machine → After
whole_step m = after m (value_step (code_at m.values.regions) m.values)

-- The caches are those of the profile, whatever they hold.
pub record AreCachesOf (profile : Profile) (caches : Hierarchy) : Type 0 where
  pub levels : levels_of caches.caches ≡ profile.levels
  pub memory : caches.memory ≡ profile.memory

-- Caches that weren't visited yet.
abbrev pub unvisited : Hierarchy → Tallied
unvisited caches = record {
  held = caches.caches;
  memory = caches.memory;
  tallies = replicate (length caches.caches) no_visits;
}

-- A start state of the machine: a start of its values, before any cycle, with the profile's caches.
pub record IsMachineStart (image : Image) (profile : Profile) (entry : ℕ) (m : Machine) : Type 0 where
  pub values : IsStart (setting_of profile entry) (regions_of image profile) m.values
  pub cycles : m.cycles ≡ 0
  pub last : m.last ≡ None
  pub classes : m.classes ≡ profile.cycles
  pub store : m.store ≡ profile.store
  pub levels : levels_of m.caches.held ≡ profile.levels
  pub memory : m.caches.memory ≡ profile.memory
  pub tallies : m.caches.tallies ≡ replicate (length m.caches.held) no_visits

-- The start state with these registers, as far as they are free, with these fills and these caches.
abbrev pub machine_at_start : Image → Profile → ℕ → Regs → List Fill → Hierarchy → Machine
machine_at_start image profile entry regs fills caches = record {
  values = record {
    regs = registers_at_start profile regs;
    pc = entry;
    regions = with_fills fills (regions_of image profile);
  };
  cycles = 0;
  last = None;
  classes = profile.cycles;
  store = profile.store;
  caches = unvisited caches;
}
