-- Each run that the headline speaks of is a walk of the net that moves the machine's caches.
use Rattle.std.proofs.Common.{◌≡◌, ℕ, ◌+◌, Bool, true, false, cond, List, [], ◌∷◌, ◌++◌, Option, None, Some, All, refl, ap, ap₂, sym, subst, ◌∙◌, arith}
use Rattle.std.specs.Prelude.{sum_by}
use Rattle.std.specs.List.{AllZip, filter}
use Rattle.std.proofs.lemmas.List.Sums.{sum_by-append, sum_by-cons}
use Rattle.age_model.specs.Moves.{caches_after, latencies_along, moment_latency, side_at, side_by, visit_latency, went, went_through}
use Rattle.age_model.proofs.Visited.{visited, visited-append, visited-arcs, visited-moves, visited-run, visited-walk}
use Rattle.cache_config.specs.Chains.{side_of}
use Rattle.cache_config.specs.declared.profile.Cycles.{Cycles}
use Rattle.cache_config.specs.declared.profile.Profile.{Profile}
use Rattle.elf_mips.specs.declared.image.Image.{Image}
use Rattle.elf_mips.specs.Segments.{code_at as image_code}
use Rattle.flow_net.specs.Paths.{IsRunPath}
use Rattle.flow_net.specs.declared.net.Access.{Access}
use Rattle.flow_net.specs.declared.net.Net.{Net}
use Rattle.lru_concrete.specs.declared.level.Level.{Level}
use Rattle.lru_concrete.specs.declared.level.Side.{Side}
use Rattle.lru_concrete.specs.Chains.{Held, levels_of}
use Rattle.lru_concrete.proofs.Kept.{levels-goes}
use Rattle.mips_decode.specs.Accesses.{UnitAccess, accesses_by, goes_through}
use Rattle.mips_decode.specs.State.{State, code_at}
use Rattle.mips_decode.specs.Units.{ReturnsToCallers, RunUnit, units_of}
use Rattle.mips_decode.specs.declared.step.AccessKind.{AccessKind}
use Rattle.mips_decode.specs.declared.step.AccessKind.TheVariants.{Fetch, Slot, Load, Store}
use Rattle.mips_machine.specs.Machine.{IsMachineStart, Machine}
use Rattle.mips_machine.specs.Passing.{Tallied, access_costs, passed, passed_all, visit_cost}
use Rattle.mips_machine.specs.Run.{accesses_along, last_machine, own_costs, values_of}
use Rattle.mips_machine.proofs.RunLemmas.{RunsAs, access_costs-append, passed_all-append, runs_as}
use Rattle.net_model.specs.Accesses.{kind_of}
use Rattle.net_model.specs.Moments.{Makes, Moment, Takes, arcs_of}
use Rattle.net_model.specs.Runs.{AreMoments, AreRunMoments, GoesAlong, IsKeptRun, IsMadeBy, IsUnitTold, KeepsRecords, numbered_accesses}
use Rattle.net_model.specs.Walks.{own_range}
use Rattle.wcet_engine.specs.Headline.{units_along}
use Rattle.wcet_engine.specs.Runs.{HasPaths}
use Rattle.wcet_engine.specs.Walks.{IsWalkOf, WalksNet}
use Rattle.wcet_engine.proofs.NetBound.{code-of_start}

abbrev goes : UnitAccess → Bool
goes access = goes_through access.kind

-- ---- One access.
-- An access that goes through no chain is a store, and no cache serves it.
no-side : (kind : AccessKind) → goes_through kind ≡ false → side_of kind ≡ None
no-side Fetch is = absurd cc
no-side Slot is = absurd cc
no-side Load is = absurd cc
no-side Store is = refl

held-passed : (side : Option Side) (address : ℕ) (caches : Tallied) →
    (passed side address caches).held ≡ (went_through side address caches.held).after
held-passed None address caches = refl
held-passed (Some side) address caches = refl

memory-passed : (side : Option Side) (address : ℕ) (caches : Tallied) → (passed side address caches).memory ≡ caches.memory
memory-passed None address caches = refl
memory-passed (Some side) address caches = refl

levels-passed : (side : Option Side) (address : ℕ) (caches : Tallied) →
    levels_of (passed side address caches).held ≡ levels_of caches.held
levels-passed None address caches = refl
levels-passed (Some side) address caches = levels-goes side address caches.held

cost-passed : (side : Option Side) (address : ℕ) (caches : Tallied) →
    visit_cost side address caches
    ≡ visit_latency side (levels_of caches.held) caches.memory (went_through side address caches.held).visit.caches
    (went_through side address caches.held).visit.hit
cost-passed None address caches = refl
cost-passed (Some side) address caches = refl

-- ---- The accesses of a unit, and their moments.
-- They cost what they visit, and leave the caches that the moments leave.
record ArePassed (net : Net) (levels : List Level) (memory : ℕ) (accesses : List UnitAccess) (made : List Moment) (caches : Tallied) : Type 0 where
  cost : access_costs accesses caches ≡ latencies_along net levels memory (visited net caches.held made)
  held : (passed_all accesses caches).held ≡ caches_after net caches.held made
  kept : levels_of (passed_all accesses caches).held ≡ levels
  behind : (passed_all accesses caches).memory ≡ memory

module _ (net : Net) (place : ℕ) (levels : List Level) (memory : ℕ) where
  -- An access of the net, by its number there, and what comes after it.
  one-passed : (access : UnitAccess) (accesses : List UnitAccess) (number address seen : ℕ) (hit : Bool) (rest : List Moment) (caches : Tallied) →
      levels_of caches.held ≡ levels → caches.memory ≡ memory → side_at net number ≡ side_of access.kind → address ≡ access.address →
      ArePassed net levels memory accesses rest (passed (side_of access.kind) access.address caches) →
      ArePassed net levels memory (access ∷ accesses) (Makes number address seen hit ∷ rest) caches
  one-passed access accesses number address seen hit rest caches same behind side there more =
      let own : Option Side = side_of access.kind in
      let next : (passed own access.address caches).held ≡ (went net number address caches.held).after =
      held-passed own access.address caches
      ∙ ap₂ (λ (s : Option Side) (a : ℕ). (went_through s a caches.held).after) (sym side) (sym there) in
      let first : visit_cost own access.address caches
      ≡ visit_latency (side_at net number) levels memory (went net number address caches.held).visit.caches
      (went net number address caches.held).visit.hit =
      cost-passed own access.address caches
      ∙ ap₂ (λ (ls : List Level) (m : ℕ). visit_latency own ls m (went_through own access.address caches.held).visit.caches
      (went_through own access.address caches.held).visit.hit) same behind
      ∙ ap₂ (λ (s : Option Side) (a : ℕ). visit_latency s levels memory (went_through s a caches.held).visit.caches
      (went_through s a caches.held).visit.hit) (sym side) (sym there) in
      let later : access_costs accesses (passed own access.address caches)
      ≡ latencies_along net levels memory (visited net (went net number address caches.held).after rest) =
      more.cost ∙ ap (λ (hs : List Held). latencies_along net levels memory (visited net hs rest)) next in
      let sum = sum_by-cons (moment_latency net levels memory)
      (Makes number address (went net number address caches.held).visit.caches (went net number address caches.held).visit.hit)
      (visited net (went net number address caches.held).after rest) in
      record {
        cost = omega (arith, first, later, sum);
        held = more.held ∙ ap (λ (hs : List Held). caches_after net hs rest) next;
        kept = more.kept;
        behind = more.behind;
      }

  made-passed : (accesses : List UnitAccess) (made : List Moment) (caches : Tallied) → levels_of caches.held ≡ levels → caches.memory ≡ memory →
      AllZip (IsMadeBy net place) (filter goes accesses) made → ArePassed net levels memory accesses made caches
  made-passed [] [] caches same behind zip = record { cost = refl; held = refl; kept = same; behind = behind }
  made-passed [] (moment ∷ made) caches same behind zip = absurd zip
  made-passed (access ∷ accesses) made caches same behind zip =
      by (goes access) refl (λ rest next kept later. made-passed accesses rest next kept later) where
        filtered : (b : Bool) → goes access ≡ b →
            AllZip (IsMadeBy net place) (cond b (access ∷ filter goes accesses) (filter goes accesses)) made
        filtered b is =
            subst (λ (test : Bool). AllZip (IsMadeBy net place) (cond test (access ∷ filter goes accesses) (filter goes accesses)) made) is zip

        by : (b : Bool) → goes access ≡ b →
            ((rest : List Moment) (next : Tallied) → levels_of next.held ≡ levels → next.memory ≡ memory →
            AllZip (IsMadeBy net place) (filter goes accesses) rest → ArePassed net levels memory accesses rest next) →
            ArePassed net levels memory (access ∷ accesses) made caches
        by false is on =
            let side : side_of access.kind ≡ None = no-side access.kind is in
            let zip' : AllZip (IsMadeBy net place) (filter goes accesses) made = filtered false is in
            let rest = on made caches same behind zip' in
            let stay : passed (side_of access.kind) access.address caches ≡ caches =
            ap (λ (s : Option Side). passed s access.address caches) side in
            let nothing : visit_cost (side_of access.kind) access.address caches ≡ 0 =
            ap (λ (s : Option Side). visit_cost s access.address caches) side in
            let costs : access_costs accesses (passed (side_of access.kind) access.address caches) ≡ access_costs accesses caches =
            ap (access_costs accesses) stay in
            let cost = rest.cost in
            record {
              cost = omega (arith, nothing, costs, cost);
              held = ap (λ (c : Tallied). (passed_all accesses c).held) stay ∙ rest.held;
              kept = ap (λ (c : Tallied). levels_of (passed_all accesses c).held) stay ∙ rest.kept;
              behind = ap (λ (c : Tallied). (passed_all accesses c).memory) stay ∙ rest.behind;
            }
        by true is on = numbered made (filtered true is) where
          numbered : (made : List Moment) → AllZip (IsMadeBy net place) (access ∷ filter goes accesses) made →
              ArePassed net levels memory (access ∷ accesses) made caches
          numbered [] zip = absurd zip
          numbered (Takes arc ∷ rest) zip = absurd (let m = zip.0.makes in cc)
          numbered (Makes number address seen hit ∷ rest) zip =
              let made_by = zip.0 in
              let named : number ≡ made_by.number = let m = made_by.makes in cc in
              let there : address ≡ access.address = let m = made_by.makes in cc in
              let side : side_at net number ≡ side_of access.kind =
              ap (side_at net) named ∙ ap side_by made_by.there ∙ ap side_of made_by.kind in
              one-passed access accesses number address seen hit rest caches same behind side there
              (on rest (passed (side_of access.kind) access.address caches)
              (levels-passed (side_of access.kind) access.address caches ∙ same)
              (memory-passed (side_of access.kind) access.address caches ∙ behind) zip.1)

-- ---- Units one after the other.
along-costs : (net : Net) (levels : List Level) (memory from : ℕ) (units : List RunUnit) (moments : List Moment) (caches : Tallied) →
    levels_of caches.held ≡ levels → caches.memory ≡ memory → AreMoments net from units moments →
    access_costs (accesses_along units) caches ≡ latencies_along net levels memory (visited net caches.held moments)
along-costs net levels memory from [] moments caches same behind are =
    ap (λ (ms : List Moment). latencies_along net levels memory (visited net caches.held ms)) (sym are)
along-costs net levels memory from (unit ∷ units) moments caches same behind are =
    let made : List Moment = are.0 in
    let number : ℕ = are.1.0 in
    let to : ℕ = are.1.1.0 in
    let rest : List Moment = are.1.1.1.0 in
    let told : IsUnitTold net from unit made number to = are.1.1.1.1 in
    let accesses : List UnitAccess = accesses_by unit.at.address unit.step in
    let one : ArePassed net levels memory accesses made caches =
    made-passed net from levels memory accesses made caches same behind told.accesses in
    let after : List Held = caches_after net caches.held made in
    let more : access_costs (accesses_along units) (passed_all accesses caches)
    ≡ latencies_along net levels memory (visited net after rest) =
    along-costs net levels memory to units rest (passed_all accesses caches) one.kept one.behind are.1.1.1.3
    ∙ ap (λ (hs : List Held). latencies_along net levels memory (visited net hs rest)) one.held in
    let both : access_costs (accesses_along (unit ∷ units)) caches
    ≡ access_costs accesses caches + access_costs (accesses_along units) (passed_all accesses caches) =
    access_costs-append accesses (accesses_along units) caches in
    let parts : visited net caches.held moments ≡ visited net caches.held made ++ Takes number ∷ visited net after rest =
    ap (visited net caches.held) are.1.1.1.2 ∙ visited-append net caches.held made (Takes number ∷ rest) in
    let whole : latencies_along net levels memory (visited net caches.held moments)
    ≡ latencies_along net levels memory (visited net caches.held made ++ Takes number ∷ visited net after rest) =
    ap (latencies_along net levels memory) parts in
    let sum = sum_by-append (moment_latency net levels memory) (visited net caches.held made) (Takes number ∷ visited net after rest) in
    let taken = sum_by-cons (moment_latency net levels memory) (Takes number) (visited net after rest) in
    let cost = one.cost in
    omega (arith, both, cost, more, whole, sum, taken)

-- ---- Whole runs.
pub walks-net : (image : Image) (profile : Profile) (entry : ℕ) (net : Net) → HasPaths image entry net → WalksNet image profile entry net
walks-net image profile entry net paths m start machines spoken =
    let code : ℕ → Option ℕ = image_code image.segments in
    let states : List State = values_of machines in
    let same : code_at m.values.regions ≡ code = code-of_start image profile entry m image.filled start in
    let runs : RunsAs code [] m machines = runs_as code [] m machines same spoken.run in
    let did : List RunUnit = units_of code m.values states in
    let units : units_along m machines ≡ did = ap (λ (words : ℕ → Option ℕ). units_of words m.values states) same in
    let records : KeepsRecords image entry did = subst (KeepsRecords image entry) units spoken.records in
    let kept : IsKeptRun image entry m.values states = record {
      begins = start.values.pc;
      zero = start.values.registers.zero;
      run = runs.run;
      targets = records.targets;
      callers = subst ReturnsToCallers units spoken.callers;
    } in
    let along : GoesAlong net code m.values states = paths m.values states kept in
    let held : List Held = m.caches.held in
    let moments : List Moment = visited net held along.moments in
    let of_run : AreRunMoments net entry did along.moments =
    subst (λ (a : ℕ). AreRunMoments net a did along.moments) start.values.pc along.units in
    let arcs : arcs_of moments ≡ arcs_of along.moments = visited-arcs net held along.moments in
    let begun : along.moments ≡ Takes 1 ∷ of_run.rest = of_run.enters in
    let rest : access_costs (accesses_along did) m.caches
    ≡ latencies_along net profile.levels profile.memory (visited net held of_run.rest) =
    along-costs net profile.levels profile.memory of_run.arc.to did of_run.rest m.caches start.levels start.memory of_run.units in
    let first : latencies_along net profile.levels profile.memory moments
    ≡ latencies_along net profile.levels profile.memory (Takes 1 ∷ visited net held of_run.rest) =
    ap (λ (ms : List Moment). latencies_along net profile.levels profile.memory (visited net held ms)) begun in
    let sum = sum_by-cons (moment_latency net profile.levels profile.memory) (Takes 1) (visited net held of_run.rest) in
    let own : own_costs m.classes m.store did ≡ own_costs profile.cycles profile.store did =
    ap₂ (λ (classes : Cycles) (store : ℕ). own_costs classes store did) start.classes start.store in
    let whole : own_costs profile.cycles profile.store (units_along m machines) ≡ own_costs profile.cycles profile.store did =
    ap (own_costs profile.cycles profile.store) units in
    let cycles = runs.cycles in
    let none = start.cycles in
    record {
      moments = moments;
      units = subst (λ (us : List RunUnit). AreRunMoments net entry us moments) (sym units)
          (visited-run net entry held did along.moments of_run);
      to = along.to;
      path = subst (λ (numbers : List ℕ). IsRunPath net.arcs numbers along.to) (sym arcs) along.path;
      walk = visited-walk net (own_range net) held along.moments along.walk;
      moves = visited-moves net held along.moments;
      cycles = omega (arith, cycles, none, own, whole, rest, first, sum);
    }
