-- The cycles of a unit that each visit of it takes.
use Rattle.std.specs.Prelude.{ℕ, ◌+◌, ◌*◌, List, Option, Some, None, sum_by}
use Rattle.cache_config.specs.Instructions.{Costs, class_cost, stage_latency, stages_of}
use Rattle.cache_config.specs.Limits.{most_cycles}
use Rattle.flow_net.specs.declared.net.Access.{Access}
use Rattle.mips_decode.specs.declared.instr.Instr.{Instr}
use Rattle.mips_decode.specs.declared.instr.Instr.TheVariants.{Load, Store}
use Rattle.mips_decode.specs.declared.step.AccessKind.{AccessKind}
use Rattle.mips_decode.specs.declared.step.AccessKind.TheVariants as kind
use Rattle.net_model.specs.Accesses.{kind_of, unit_accesses}
use Rattle.net_model.specs.declared.unit.CodeUnit.{CodeUnit}
use Rattle.net_model.specs.declared.unit.Content.{Content}
use Rattle.net_model.specs.declared.unit.Content.TheVariants.{Unit as Stands, Fault}

-- The latency of a store, where the instruction is one.
abbrev pub store_latency : Costs → Instr → ℕ
store_latency costs (Store op rt base offset) = costs.store
store_latency costs instr = 0

-- The cycles of an instruction by itself: those of its class, and the latency of its store.
abbrev pub own_cost : Costs → Instr → ℕ
own_cost costs instr = class_cost costs instr + store_latency costs instr

abbrev pub slot_cost : Costs → Option Instr → ℕ
slot_cost costs None = 0
slot_cost costs (Some slot) = own_cost costs slot

-- An access visits stage 1 of its chain whenever it is made.
abbrev pub first_stage : Costs → Access → ℕ
first_stage costs access = stage_latency costs (kind_of access.role) 1

abbrev pub first_stages : Costs → List Access → ℕ
first_stages costs accesses = sum_by (first_stage costs) accesses

-- The cycles of a unit at a place, whatever it finds: those of its instruction and of its slot by themselves, and the
-- latencies of stage 1 of its accesses.
abbrev pub unit_cost : Costs → (number : ℕ) → CodeUnit → (address : ℕ) → ℕ
unit_cost costs number unit address =
    own_cost costs unit.instr + slot_cost costs unit.slot + first_stages costs (unit_accesses number unit address)

-- The most that an access costs: the latencies of all stages of its chain.
abbrev pub all_stages : Costs → Access → ℕ
all_stages costs access = sum_by (λ (latency : ℕ). latency) (stages_of costs (kind_of access.role))

-- The most cycles of a unit at a place: each of its accesses visits every stage.
abbrev pub full_cost : Costs → (number : ℕ) → CodeUnit → (address : ℕ) → ℕ
full_cost costs number unit address =
    own_cost costs unit.instr + slot_cost costs unit.slot + sum_by (all_stages costs) (unit_accesses number unit address)

abbrev pub content_full : Costs → (number : ℕ) → Content → (address : ℕ) → ℕ
content_full costs number (Stands unit) address = full_cost costs number unit address
content_full costs number (Fault kind place) address = 0

-- Where no unit stands there is nothing to do.
abbrev pub content_cost : Costs → (number : ℕ) → Content → (address : ℕ) → ℕ
content_cost costs number (Stands unit) address = unit_cost costs number unit address
content_cost costs number (Fault kind place) address = 0

-- The same by its instructions: what the load or store of an instruction costs, and what an instruction that is
-- fetched in this way costs.
abbrev pub touch_cost : Costs → Instr → ℕ
touch_cost costs (Load op rt base offset) = stage_latency costs kind.Load 1
touch_cost costs (Store op rt base offset) = costs.store
touch_cost costs instr = 0

abbrev pub instr_cost : Costs → AccessKind → Instr → ℕ
instr_cost costs fetch instr = class_cost costs instr + (stage_latency costs fetch 1 + touch_cost costs instr)

-- The same with all stages.
abbrev pub touch_full : Costs → Instr → ℕ
touch_full costs (Load op rt base offset) = sum_by (λ (latency : ℕ). latency) (stages_of costs kind.Load)
touch_full costs (Store op rt base offset) = costs.store
touch_full costs instr = 0

abbrev pub instr_full : Costs → AccessKind → Instr → ℕ
instr_full costs fetch instr =
    class_cost costs instr + (sum_by (λ (latency : ℕ). latency) (stages_of costs fetch) + touch_full costs instr)

-- The most cycles of a unit: two classes, two fetches, and a load or store.
abbrev pub price_limit : ℕ
price_limit = 5 * most_cycles

-- The most cycles of a unit with all stages: two classes, and two fetches and a load through three caches to memory.
abbrev pub full_limit : ℕ
full_limit = 14 * most_cycles
