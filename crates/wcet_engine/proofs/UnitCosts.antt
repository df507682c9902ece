-- A unit that a run did at a place costs the place's price, in two parts: by itself, and at the first stages of its
-- accesses.
use Rattle.std.proofs.Common.{◌≡◌, ℕ, ◌+◌, Bool, true, false, cond, List, [], ◌∷◌, Option, Some, None, refl, ap, sym, ◌∙◌, arith}
use Rattle.std.specs.Prelude.{option_map, sum_by}
use Rattle.std.specs.List.{AllZip, filter}
use Rattle.std.proofs.lemmas.List.Sums.{sum_by-cons}
use Rattle.flow_net.specs.declared.net.Access.{Access}
use Rattle.mips_decode.specs.Accesses.{UnitAccess, accesses_of, goes_through}
use Rattle.mips_decode.specs.declared.instr.Instr.{Instr}
use Rattle.mips_decode.specs.declared.instr.Instr.TheVariants.{Three, Shift, HiLo, MulDiv, Imm, Lui, Load, Store, Branch, Jump, JumpReg, JumpLink, Stop}
use Rattle.mips_decode.specs.declared.step.AccessKind.{AccessKind}
use Rattle.mips_decode.specs.declared.step.AccessKind.TheVariants as kind
use Rattle.mips_decode.specs.declared.step.Touched.{Touched}
use Rattle.mips_decode.specs.Step.{Done}
use Rattle.cache_config.specs.Instructions.{Costs, class_cost, stage_latency}
use Rattle.mips_machine.specs.Machine.{own_cost as done_cost, store_cost}
use Rattle.net_model.specs.Accesses.{unit_accesses}
use Rattle.net_model.specs.declared.unit.CodeUnit.{CodeUnit}
use Rattle.net_model.specs.Units.{is_transfer}
use Rattle.net_model.proofs.Contents.{HasSlot}
use Rattle.net_model.proofs.Zero.{IsLow, touch}
use Rattle.net_model.proofs.Steps.{last_touch, slot_list}
use Rattle.net_model.proofs.UnitAccesses.{Matches, unit-matches}
use Rattle.ipet_program.specs.Costs.{first_stage, first_stages, own_cost, slot_cost, store_latency, unit_cost}

-- ---- By itself: the classes of its instructions, and its store.
abbrev stored : Costs → Option Bool → ℕ
stored costs None = 0
stored costs (Some false) = 0
stored costs (Some true) = costs.store

stored-touch : (costs : Costs) (instr : Instr) → stored costs (touch instr) ≡ store_latency costs instr
stored-touch costs (Three op rd rs rt) = refl
stored-touch costs (Shift op rd rt by) = refl
stored-touch costs (HiLo op number) = refl
stored-touch costs (MulDiv op rs rt) = refl
stored-touch costs (Imm op rt rs imm) = refl
stored-touch costs (Lui rt imm) = refl
stored-touch costs (Load op rt base offset) = refl
stored-touch costs (Store op rt base offset) = refl
stored-touch costs (Branch op rs rt offset) = refl
stored-touch costs (Jump link index) = refl
stored-touch costs (JumpReg rs) = refl
stored-touch costs (JumpLink rd rs) = refl
stored-touch costs (Stop op code) = refl

store-by : (costs : Costs) (b : Bool) → ◌≡◌ {A = ℕ} (cond b costs.store 0) (stored costs (Some b))
store-by costs true = refl
store-by costs false = refl

store-stored : (costs : Costs) (access : Option Touched) →
    store_cost costs.store access ≡ stored costs (option_map (λ (a : Touched). a.store) access)
store-stored costs None = refl
store-stored costs (Some a) = store-by costs a.store

-- A jump or branch never stores: the store is its slot's.
quiet : (costs : Costs) (i : Instr) → is_transfer i ≡ true → store_latency costs i ≡ 0
quiet costs (Branch op rs rt offset) is = refl
quiet costs (Jump link index) is = refl
quiet costs (JumpReg rs) is = refl
quiet costs (JumpLink rd rs) is = refl
quiet costs (Load op rt base offset) is = refl
quiet costs (Store op rt base offset) is = cc
quiet costs (Three op rd rs rt) is = refl
quiet costs (Shift op rd rt by) is = refl
quiet costs (HiLo op number) is = refl
quiet costs (MulDiv op rs rt) is = refl
quiet costs (Imm op rt rs imm) is = refl
quiet costs (Lui rt imm) is = refl
quiet costs (Stop op code) is = refl

own-parts : (code : ℕ → Option ℕ) (costs : Costs) (address : ℕ) (instr : Instr) (slot : Option Instr) → HasSlot code address instr slot →
    sum_by (class_cost costs) (instr ∷ slot_list slot) + stored costs (last_touch instr slot)
    ≡ own_cost costs instr + slot_cost costs slot
own-parts code costs address instr None has =
    let sum = sum_by-cons (class_cost costs) instr [] in
    let store = stored-touch costs instr in
    omega (arith, sum, store)
own-parts code costs address instr (Some slot) has =
    let sum = sum_by-cons (class_cost costs) instr (slot ∷ []) in
    let more = sum_by-cons (class_cost costs) slot [] in
    let store = stored-touch costs slot in
    let none = quiet costs instr has.0 in
    omega (arith, sum, more, store, none)

own-done : (code : ℕ → Option ℕ) (costs : Costs) (address : ℕ) (unit : CodeUnit) (done : Done) → HasSlot code address unit.instr unit.slot →
    done.instructions ≡ unit.instr ∷ slot_list unit.slot →
    option_map (λ (a : Touched). a.store) done.access ≡ last_touch unit.instr unit.slot →
    done_cost costs.cycles costs.store done.instructions done.access ≡ own_cost costs unit.instr + slot_cost costs unit.slot
own-done code costs address unit done has instructions touches =
    let first : sum_by (class_cost costs) done.instructions ≡ sum_by (class_cost costs) (unit.instr ∷ slot_list unit.slot) =
    ap (sum_by (class_cost costs)) instructions in
    let second : store_cost costs.store done.access ≡ stored costs (last_touch unit.instr unit.slot) =
    store-stored costs done.access ∙ ap (stored costs) touches in
    let parts = own-parts code costs address unit.instr unit.slot has in
    omega (arith, first, second, parts)

-- ---- Its accesses: each visits stage 1, and a store visits none.
abbrev pub first_latencies : Costs → List UnitAccess → ℕ
first_latencies costs [] = 0
first_latencies costs (access ∷ more) = stage_latency costs access.kind 1 + first_latencies costs more

-- The cycles of a unit that was done where no caches are.
abbrev pub uncached_cost : Costs → (address : ℕ) → Done → ℕ
uncached_cost costs address done =
    done_cost costs.cycles costs.store done.instructions done.access + first_latencies costs (accesses_of address done)

abbrev goes : UnitAccess → Bool
goes access = goes_through access.kind

store-stages : (costs : Costs) (b : Bool) (made : UnitAccess) (more : List UnitAccess) → goes made ≡ b →
    first_latencies costs (filter goes (made ∷ more)) ≡ first_latencies costs (made ∷ filter goes more)
store-stages costs true made more through = rw through refl
store-stages costs false made more through =
    let none : stage_latency costs made.kind 1 ≡ 0 = by_kind made.kind through in
    rw through (omega (arith, none))
  where
    by_kind : (k : AccessKind) → goes_through k ≡ false → stage_latency costs k 1 ≡ 0
    by_kind kind.Store through = refl
    by_kind kind.Fetch through = cc
    by_kind kind.Slot through = cc
    by_kind kind.Load through = cc

all-stages : (costs : Costs) (accesses : List UnitAccess) → first_latencies costs (filter goes accesses) ≡ first_latencies costs accesses
all-stages costs [] = refl
all-stages costs (made ∷ more) =
    let rest = all-stages costs more in
    let first = store-stages costs (goes made) made more refl in
    omega (arith, rest, first)

matched-stages : (costs : Costs) (place : ℕ) (accesses : List UnitAccess) (own : List Access) → AllZip (Matches place) accesses own →
    first_latencies costs accesses ≡ first_stages costs own
matched-stages costs place [] [] zip = refl
matched-stages costs place [] (access ∷ own) zip = absurd zip
matched-stages costs place (made ∷ more) [] zip = absurd zip
matched-stages costs place (made ∷ more) (access ∷ own) zip =
    let rest = matched-stages costs place more own zip.1 in
    let first : stage_latency costs made.kind 1 ≡ first_stage costs access =
    ap (λ (k : AccessKind). stage_latency costs k 1) (sym zip.0.kind) in
    let sum = sum_by-cons (first_stage costs) access own in
    omega (arith, rest, first, sum)

-- A unit that was done takes the cycles of its place.
pub unit-cycles : (code : ℕ → Option ℕ) (costs : Costs) (number address : ℕ) (unit : CodeUnit) (done : Done) →
    HasSlot code address unit.instr unit.slot → done.instructions ≡ unit.instr ∷ slot_list unit.slot →
    option_map (λ (a : Touched). a.store) done.access ≡ last_touch unit.instr unit.slot → IsLow done.access →
    uncached_cost costs address done ≡ unit_cost costs number unit address
unit-cycles code costs number address unit done has instructions touches low =
    let own = own-done code costs address unit done has instructions touches in
    let zip = unit-matches code number address unit done has instructions touches low in
    let all = all-stages costs (accesses_of address done) in
    let matched = matched-stages costs number (filter goes (accesses_of address done)) (unit_accesses number unit address) zip in
    omega (arith, own, all, matched)
