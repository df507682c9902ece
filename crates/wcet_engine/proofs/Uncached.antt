-- Without caches each access goes to memory, so that a run takes the cycles of its units at stage 1.
use Rattle.std.proofs.Common.{◌≡◌, ℕ, suc, ◌+◌, List, [], ◌∷◌, ◌++◌, map, refl, sym, ap, ap₂, subst, ◌∙◌, arith}
use Rattle.std.specs.Prelude.{slice_index_or, sum_by}
use Rattle.std.proofs.lemmas.List.Sums.{sum_by-cons}
use Rattle.cache_config.specs.Instructions.{Costs, costs_of, stage_latency}
use Rattle.cache_config.specs.declared.profile.Cycles.{Cycles}
use Rattle.cache_config.specs.declared.profile.Profile.{Profile}
use Rattle.elf_mips.specs.declared.image.Image.{Image}
use Rattle.lru_concrete.specs.declared.level.Level.{Level}
use Rattle.lru_concrete.specs.declared.level.Side.{Side}
use Rattle.lru_concrete.specs.declared.level.Side.TheVariants as side
use Rattle.lru_concrete.specs.Chains.{Held, chain, levels_of}
use Rattle.mips_decode.specs.Accesses.{UnitAccess, accesses_by}
use Rattle.mips_decode.specs.declared.step.AccessKind.{AccessKind}
use Rattle.mips_decode.specs.declared.step.AccessKind.TheVariants.{Fetch, Slot, Load, Store}
use Rattle.mips_decode.specs.Step.{Stepped}
use Rattle.mips_decode.specs.Units.{RunUnit}
use Rattle.cache_config.specs.Chains.{side_of}
use Rattle.mips_machine.specs.declared.caches.Tally.{Tally}
use Rattle.mips_machine.specs.Machine.{IsMachineStart, Machine}
use Rattle.mips_machine.specs.Passing.{Tallied, access_costs, passed, visit_cost}
use Rattle.mips_machine.specs.Run.{accesses_along, own_costs, run_cost, step_cost}
use Rattle.wcet_engine.proofs.UnitCosts.{first_latencies}

-- The cycles of a unit where no caches are.
abbrev pub step_cycles : Costs → (address : ℕ) → Stepped → ℕ
step_cycles costs address step = step_cost costs.cycles costs.store step + first_latencies costs (accesses_by address step)

abbrev pub unit_cycles : Costs → RunUnit → ℕ
unit_cycles costs unit = step_cycles costs unit.at.address unit.step

-- A machine's caches where there are none.
abbrev none_held : (memory : ℕ) → List Tally → Tallied
none_held memory tallies = record { held = []; memory = memory; tallies = tallies }

visit-first : (costs : Costs) (memory : ℕ) (tallies : List Tally) (kind : AccessKind) (address : ℕ) → costs.levels ≡ [] →
    costs.memory ≡ memory → visit_cost (side_of kind) address (none_held memory tallies) ≡ stage_latency costs kind 1
visit-first costs memory tallies Fetch address none same =
    (let alone : 0 + memory ≡ memory = omega arith in alone) ∙
    ap₂ (λ (levels : List Level) (m : ℕ). slice_index_or (map (λ (l : Level). l.latency) (chain side.Fetch levels) ++ (m ∷ [])) 0 0) (sym none) (sym same)
visit-first costs memory tallies Slot address none same =
    (let alone : 0 + memory ≡ memory = omega arith in alone) ∙
    ap₂ (λ (levels : List Level) (m : ℕ). slice_index_or (map (λ (l : Level). l.latency) (chain side.Fetch levels) ++ (m ∷ [])) 0 0) (sym none) (sym same)
visit-first costs memory tallies Load address none same =
    (let alone : 0 + memory ≡ memory = omega arith in alone) ∙
    ap₂ (λ (levels : List Level) (m : ℕ). slice_index_or (map (λ (l : Level). l.latency) (chain side.Load levels) ++ (m ∷ [])) 0 0) (sym none) (sym same)
visit-first costs memory tallies Store address none same = refl

stays : (memory : ℕ) (tallies : List Tally) (kind : AccessKind) (address : ℕ) (more : List UnitAccess) →
    access_costs more (passed (side_of kind) address (none_held memory tallies)) ≡ access_costs more (none_held memory tallies)
stays memory tallies Fetch address more = refl
stays memory tallies Slot address more = refl
stays memory tallies Load address more = refl
stays memory tallies Store address more = refl

all-first : (costs : Costs) (memory : ℕ) (tallies : List Tally) (accesses : List UnitAccess) → costs.levels ≡ [] → costs.memory ≡ memory →
    access_costs accesses (none_held memory tallies) ≡ first_latencies costs accesses
all-first costs memory tallies [] none same = refl
all-first costs memory tallies (access ∷ more) none same =
    let first = visit-first costs memory tallies access.kind access.address none same in
    let on = stays memory tallies access.kind access.address more in
    let rest = all-first costs memory tallies more none same in
    omega (arith, first, on, rest)

first-append : (costs : Costs) (accesses more : List UnitAccess) →
    first_latencies costs (accesses ++ more) ≡ first_latencies costs accesses + first_latencies costs more
first-append costs [] more = omega arith
first-append costs (access ∷ accesses) more = let rest = first-append costs accesses more in omega (arith, rest)

along-first : (costs : Costs) (did : List RunUnit) →
    own_costs costs.cycles costs.store did + first_latencies costs (accesses_along did) ≡ sum_by (unit_cycles costs) did
along-first costs [] = refl
along-first costs (unit ∷ did) =
    let rest = along-first costs did in
    let own = sum_by-cons (λ (u : RunUnit). step_cost costs.cycles costs.store u.step) unit did in
    let whole = sum_by-cons (unit_cycles costs) unit did in
    let parts : first_latencies costs (accesses_along (unit ∷ did))
    ≡ first_latencies costs (accesses_by unit.at.address unit.step) + first_latencies costs (accesses_along did) =
    first-append costs (accesses_by unit.at.address unit.step) (accesses_along did) in
    omega (arith, rest, own, whole, parts)

none-held : (held : List Held) → levels_of held ≡ [] → held ≡ []
none-held [] none = refl
none-held (cache ∷ held) none = absurd cc

-- The cycles of a run of units from a start under a profile without caches.
pub uncached-run : (image : Image) (profile : Profile) (entry : ℕ) (m : Machine) → IsMachineStart image profile entry m →
    profile.levels ≡ [] → (did : List RunUnit) →
    run_cost m.classes m.store m.caches did ≡ sum_by (unit_cycles (costs_of profile)) did
uncached-run image profile entry m start none did =
    let costs : Costs = costs_of profile in
    let held : m.caches.held ≡ [] = none-held m.caches.held (start.levels ∙ none) in
    let own : own_costs m.classes m.store did ≡ own_costs profile.cycles profile.store did =
    ap₂ (λ (classes : Cycles) (store : ℕ). own_costs classes store did) start.classes start.store in
    let empty : access_costs (accesses_along did) m.caches ≡ access_costs (accesses_along did) (none_held m.caches.memory m.caches.tallies) =
    ap (λ (hs : List Held). access_costs (accesses_along did) (record { held = hs; memory = m.caches.memory; tallies = m.caches.tallies })) held in
    let first = all-first costs m.caches.memory m.caches.tallies (accesses_along did) none (sym start.memory) in
    let along = along-first costs did in
    omega (arith, own, empty, first, along)
