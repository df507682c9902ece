-- What instructions and accesses cost under a profile.
use Rattle.std.specs.Prelude.{ℕ, zero, suc, List, [], ◌∷◌, ◌++◌, map, slice_index_or, Option, Some, None}
use Rattle.cache_config.specs.declared.profile.Cycles.{Cycles}
use Rattle.cache_config.specs.declared.profile.Profile.{Profile}
use Rattle.cache_config.specs.Chains.{side_of}
use Rattle.lru_concrete.specs.Chains.{chain}
use Rattle.lru_concrete.specs.declared.level.Level.{Level}
use Rattle.lru_concrete.specs.declared.level.Side.{Side}
use Rattle.mips_decode.specs.declared.columns.CostClass.{CostClass}
use Rattle.mips_decode.specs.declared.columns.CostClass.TheVariants.{Alu, Shift, Mult, Div, Move, Load, Store, Branch, Jump, Stop}
use Rattle.mips_decode.specs.declared.instr.Instr.{Instr}
use Rattle.mips_decode.specs.declared.step.AccessKind.{AccessKind}
use Rattle.mips_decode.specs.Columns.{class_of}

-- What units cost: the cycles of each class, the latency of a store, the caches, and the latency of memory.
pub record Costs : Type 0 where
  pub cycles : Cycles
  pub store : ℕ
  pub levels : List Level
  pub memory : ℕ

abbrev pub costs_of : Profile → Costs
costs_of profile =
    record { cycles = profile.cycles; store = profile.store; levels = profile.levels; memory = profile.memory }

-- The cycles of a class.
abbrev pub cycles_of : Cycles → CostClass → ℕ
cycles_of cycles Alu = cycles.alu
cycles_of cycles Shift = cycles.shift
cycles_of cycles Mult = cycles.mult
cycles_of cycles Div = cycles.div
cycles_of cycles Move = cycles.hilo
cycles_of cycles Load = cycles.load
cycles_of cycles Store = cycles.store
cycles_of cycles Branch = cycles.branch
cycles_of cycles Jump = cycles.jump
cycles_of cycles Stop = cycles.stop

-- An instruction takes the cycles of its class.
abbrev pub class_cost : Costs → Instr → ℕ
class_cost costs instr = cycles_of costs.cycles (class_of instr)

-- The latencies of the stages of a side, in order: the caches that serve it, in the profile's order, then memory.
abbrev pub stages_through : Costs → Option Side → List ℕ
stages_through costs None = []
stages_through costs (Some side) =
    map (λ (level : Level). level.latency) (chain side costs.levels) ++ (costs.memory ∷ [])

-- The stages that an access of a kind may visit. A store visits none.
abbrev pub stages_of : Costs → AccessKind → List ℕ
stages_of costs kind = stages_through costs (side_of kind)

-- The latency of a stage, from 1; 0 where the access has no such stage.
abbrev pub stage_latency : Costs → AccessKind → (stage : ℕ) → ℕ
stage_latency costs kind zero = 0
stage_latency costs kind (suc before) = slice_index_or (stages_of costs kind) before 0
