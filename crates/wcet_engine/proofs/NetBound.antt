-- The flow program of the program's net counts every run that the headline speaks of and whose entry has returned, so
-- that a bound of its counts bounds the run.
use Rattle.std.proofs.Common.{length, ◌≡◌, ℕ, ◌+◌, ◌⊎◌, inl, inr, List, [], ◌∷◌, ◌++◌, Option, None, Some, All, pos, refl, ap, sym, subst, ◌∙◌, append-nil, arith}
use Rattle.std.specs.Prelude.{◌≤ℤ◌, sum_by}
use Rattle.std.specs.List.{AllZip}
use Rattle.std.proofs.Math.Path.{fun_ext}
use Rattle.std.proofs.lemmas.Int.{ints}
use Rattle.std.proofs.lemmas.List.Elements.{All-cons}
use Rattle.std.proofs.lemmas.List.Sums.{sum_by-append, sum_by-cons}
use Rattle.cache_config.specs.Instructions.{Costs, costs_of}
use Rattle.cache_config.specs.declared.profile.Profile.{Profile}
use Rattle.elf_mips.specs.declared.image.Image.{Image}
use Rattle.elf_mips.specs.Segments.{IsFilled}
use Rattle.elf_mips.specs.Segments.{code_at as image_code}
use Rattle.flow_net.specs.Numbers.{item_at}
use Rattle.flow_net.specs.Paths.{IsRunPath}
use Rattle.flow_net.specs.Scopes.{HasScopes}
use Rattle.flow_net.specs.Visits.{KeepsBound, KeepsBounds, ends, enters, passes, returns, target_of, targets_along}
use Rattle.flow_net.specs.declared.net.LoopInst.{LoopInst}
use Rattle.flow_net.specs.declared.net.Net.{Net}
use Rattle.flow_net.specs.declared.net.NetArc.{NetArc}
use Rattle.flow_net.proofs.Numbers.{item_at-within}
use Rattle.ipet_program.specs.Costs.{content_cost, unit_cost}
use Rattle.ipet_program.specs.Counts.{IsFeasible, arc_cost, counts_of, path_cost, value_of}
use Rattle.ipet_program.specs.Programs.{IsProgramOf, place_price, price_at}
use Rattle.ipet_program.specs.declared.program.Program.{Program}
use Rattle.ipet_program.proofs.RunCounts.{AreRunCounts, run-counts}
use Rattle.mips_decode.specs.Run.{last_state}
use Rattle.mips_decode.specs.State.{State, code_at, return_address}
use Rattle.mips_decode.specs.Step.{Returned, Went}
use Rattle.mips_decode.specs.Units.{ReturnsToCallers, RunUnit, units_of, visits}
use Rattle.mips_machine.specs.Image.{regions_of}
use Rattle.mips_machine.specs.Machine.{IsMachineStart, Machine}
use Rattle.mips_machine.specs.Run.{last_machine, run_cost, values_of}
use Rattle.mips_machine.proofs.CodeLemmas.{code_at-regions_of, code_at-start}
use Rattle.mips_machine.proofs.RunLemmas.{RunsAs, runs_as}
use Rattle.net_model.specs.declared.unit.Content.{Content}
use Rattle.net_model.specs.Moments.{Moment, Takes, VisitsNone, arcs_of}
use Rattle.net_model.specs.Net.{IsNet}
use Rattle.net_model.specs.Runs.{AreVisited, IsKeptRun, KeepsRecords, StandsAt}
use Rattle.net_model.specs.Units.{content_at}
use Rattle.net_model.proofs.Contents.{IsFetched-unit, unit-content}
use Rattle.net_model.proofs.RunPaths.{IsDoneAt, IsWholeAlong, whole-along}
use Rattle.wcet_engine.specs.Runs.{CountsRuns, IsCounted}
use Rattle.wcet_engine.specs.Headline.{Bounds, units_along}
use Rattle.wcet_engine.specs.Stages.{IsNetOf}
use Rattle.wcet_engine.proofs.Uncached.{step_cycles, uncached-run, unit_cycles}
use Rattle.wcet_engine.proofs.UnitCosts.{uncached_cost, unit-cycles}

-- The executable words of a start are the image's.
pub code-of_start : (image : Image) (profile : Profile) (entry : ℕ) (m : Machine) → All IsFilled image.segments →
    IsMachineStart image profile entry m → code_at m.values.regions ≡ image_code image.segments
code-of_start image profile entry m filled start = fun_ext (λ address.
    code_at-start (regions_of image profile) m.values.regions start.values.memory address
    ∙ code_at-regions_of address image profile filled)

-- Places that keep the bounds keep them where the run ends: 0 is no header.
keeps-end : (net : Net) (scope : ℕ) (inst : LoopInst) → (0 ≡ inst.header → ⊥) → (places : List ℕ) (from left : ℕ) →
    KeepsBound net scope inst from left places → KeepsBound net scope inst from left (places ++ 0 ∷ [])
keeps-end net scope inst differ _ _ _ (ends from left) = passes from left 0 [] differ (ends 0 left)
keeps-end net scope inst differ _ _ _ (passes from left to more away rest) =
    passes from left to (more ++ 0 ∷ []) away (keeps-end net scope inst differ more to left rest)
keeps-end net scope inst differ _ _ _ (enters from left turns more outside bound rest) =
    enters from left turns (more ++ 0 ∷ []) outside bound (keeps-end net scope inst differ more inst.header turns rest)
keeps-end net scope inst differ _ _ _ (returns from left more inside rest) =
    returns from left (more ++ 0 ∷ []) inside (keeps-end net scope inst differ more inst.header left rest)

keep-end : (image : Image) (entry : ℕ) (net : Net) → IsNet image entry net → (places : List ℕ) → KeepsBounds net places →
    KeepsBounds net (places ++ 0 ∷ [])
keep-end image entry net is places keeps scope inst there =
    let one = is.loops.each scope inst there in
    let positive = (item_at-within net.places inst.header one.at.place one.at.there).from_one in
    keeps-end net scope inst (λ same. absurd (omega (arith, positive, same))) places 0 0 (keeps scope inst there)

-- ---- What the units of a run cost is what their places cost.
-- Sums over two lists that are alike item by item.
zip-sums : {A B : Type 0} (R : A → B → Type 0) (f : A → ℕ) (g : B → ℕ) → ((a : A) (b : B) → R a b → f a ≡ g b) →
    (items : List A) (others : List B) → AllZip R items others → sum_by f items ≡ sum_by g others
zip-sums R f g same [] [] zip = refl
zip-sums R f g same [] (b ∷ others) zip = absurd zip
zip-sums R f g same (a ∷ items) [] zip = absurd zip
zip-sums R f g same (a ∷ items) (b ∷ others) zip =
    let first = same a b zip.0 in
    let rest = zip-sums R f g same items others zip.1 in
    let left = sum_by-cons f a items in
    let right = sum_by-cons g b others in
    omega (arith, first, rest, left, right)

step-cycles : (costs : Costs) (image : Image) (net : Net) (did : RunUnit) (number : ℕ) (done : IsDoneAt image net did number) →
    unit_cycles costs did ≡ uncached_cost costs did.at.address done.done
step-cycles costs image net did number done = by_step done.step where
  by_step : ((did.step ≡ Went done.done done.next) ⊎ (did.step ≡ Returned done.done done.next)) →
      unit_cycles costs did ≡ uncached_cost costs did.at.address done.done
  by_step (inl went) = ap (step_cycles costs did.at.address) went
  by_step (inr ended) = ap (step_cycles costs did.at.address) ended

done-price : (profile : Profile) (image : Image) (net : Net) (did : RunUnit) (number : ℕ) → IsDoneAt image net did number →
    unit_cycles (costs_of profile) did ≡ place_price profile image net number
done-price profile image net did number done =
    let costs : Costs = costs_of profile in
    let address = did.at.address in
    let fetched = IsFetched-unit image address done.unit (unit-content image address done.unit done.stands) in
    let cycles = unit-cycles (image_code image.segments) costs number address done.unit done.done fetched.slot
    done.instructions done.touches done.low in
    let price : place_price profile image net number ≡ unit_cost costs number done.unit address =
    ap (price_at profile image number) done.at.at.there
    ∙ ap (λ (a : ℕ). content_cost costs number (content_at image a) a) done.at.at.same
    ∙ ap (λ (c : Content). content_cost costs number c address) (unit-content image address done.unit done.stands) in
    step-cycles costs image net did number done ∙ cycles ∙ sym price

-- The places of the units that are done are those of the visits.
done-visited : (image : Image) (net : Net) (did : List RunUnit) (places : List ℕ) → AllZip (IsDoneAt image net) did places →
    AreVisited net (visits did) places
done-visited image net [] [] zip = tt
done-visited image net [] (place ∷ places) zip = absurd zip
done-visited image net (unit ∷ did) [] zip = absurd zip
done-visited image net (unit ∷ did) (place ∷ places) zip = (zip.0.at, done-visited image net did places zip.1)

-- The cost of a path is that of the places that it comes to.
path-places : (price : ℕ → ℕ) → price 0 ≡ 0 → (arcs : List NetArc) (numbers : List ℕ) →
    path_cost price arcs numbers ≡ sum_by price (targets_along arcs numbers)
path-places price none arcs [] = refl
path-places price none arcs (number ∷ numbers) =
    let rest = path-places price none arcs numbers in
    let left = sum_by-cons (λ (n : ℕ). arc_cost price (item_at n arcs)) number numbers in
    let right = sum_by-cons price (target_of (item_at number arcs)) (targets_along arcs numbers) in
    let first = arc-price (item_at number arcs) in
    omega (arith, rest, left, right, first)
  where
    arc-price : (found : Option NetArc) → arc_cost price found ≡ price (target_of found)
    arc-price None = sym none
    arc-price (Some arc) = refl

-- So the counts of a run that has returned are feasible, and their value is its cycles.
run-counted : (profile : Profile) (image : Image) (entry : ℕ) (net : Net) (program : Program) (s : State) (states : List State) →
    IsNet image entry net → HasScopes net → IsProgramOf net (place_price profile image net) program → s.pc ≡ entry →
    KeepsRecords image entry (units_of (image_code image.segments) s states) → (last_state s states).pc ≡ return_address →
    IsWholeAlong image entry net s states →
    IsCounted net program entry (units_of (image_code image.segments) s states)
    (sum_by (unit_cycles (costs_of profile)) (units_of (image_code image.segments) s states))
run-counted profile image entry net program s states is scopes of_net begins records place whole =
    let did : List RunUnit = units_of (image_code image.segments) s states in
    let price : ℕ → ℕ = place_price profile image net in
    let rest = whole.rest in
    let moments : List Moment = Takes 1 ∷ rest.moments in
    let returned : rest.to ≡ 0 = rest.ended place in
    let path : IsRunPath net.arcs (arcs_of moments) 0 =
    subst (λ (to : ℕ). IsRunPath net.arcs (arcs_of moments) to) returned (refl, (whole.arc, whole.first, whole.outside, rest.path)) in
    let first : target_of (item_at 1 net.arcs) ≡ whole.arc.to = ap target_of whole.first in
    let targets : targets_along net.arcs (arcs_of moments) ≡ rest.places ++ 0 ∷ [] =
    ap (λ (to : ℕ). to ∷ targets_along net.arcs (arcs_of rest.moments)) first ∙ rest.along
    ∙ ap (λ (to : ℕ). rest.places ++ to ∷ []) returned in
    let keeps : KeepsBounds net rest.places =
    records.bounds net is did [] (sym (append-nil did)) rest.places (done-visited image net did rest.places rest.done) in
    let kept : KeepsBounds net (targets_along net.arcs (arcs_of moments)) =
    subst (KeepsBounds net) (sym targets) (keep-end image entry net is rest.places keeps) in
    let counts : AreRunCounts net price program moments = run-counts net scopes price program of_net moments path kept in
    let along = path-places price of_net.outside net.arcs (arcs_of moments) in
    let places : sum_by price (targets_along net.arcs (arcs_of moments)) ≡ sum_by price (rest.places ++ 0 ∷ []) =
    ap (sum_by price) targets in
    let both = sum_by-append price rest.places (0 ∷ []) in
    let end = sum_by-cons price 0 [] in
    let outside = of_net.outside in
    let units = zip-sums (IsDoneAt image net) (unit_cycles (costs_of profile)) price (done-price profile image net) did rest.places rest.done in
    let cycles : path_cost price net.arcs (arcs_of moments) ≡ sum_by (unit_cycles (costs_of profile)) did =
    omega (arith, along, places, both, end, outside, units) in
    record {
      moments = moments;
      units = record {
        arc = whole.arc;
        first = whole.first;
        outside = whole.outside;
        begins = subst (λ (a : ℕ). StandsAt net (record { calls = []; address = a }) whole.arc.to) begins whole.begins;
        rest = rest.moments;
        enters = refl;
        units = rest.units;
      };
      uncached = All-cons VisitsNone (Takes 1) rest.moments tt rest.uncached;
      path = path;
      feasible = counts.feasible;
      value = counts.value ∙ ap (λ (n : ℕ). pos n) cycles;
    }

-- The program of the net counts each run that the headline speaks of and whose entry has returned.
pub counts-runs : (image : Image) (profile : Profile) (entry : ℕ) (net : Net) (program : Program) →
    profile.levels ≡ [] → IsNetOf image entry net → IsProgramOf net (place_price profile image net) program →
    CountsRuns image profile entry net program
counts-runs image profile entry net program uncached is of_net m start machines spoken returned =
    let code : ℕ → Option ℕ = image_code image.segments in
    let states : List State = values_of machines in
    let same : code_at m.values.regions ≡ code = code-of_start image profile entry m image.filled start in
    let runs : RunsAs code [] m machines = runs_as code [] m machines same spoken.run in
    let did : List RunUnit = units_of code m.values states in
    let units : units_along m machines ≡ did = ap (λ (words : ℕ → Option ℕ). units_of words m.values states) same in
    let records : KeepsRecords image entry did = subst (KeepsRecords image entry) units spoken.records in
    let kept : IsKeptRun image entry m.values states = record {
      begins = start.values.pc;
      zero = start.values.registers.zero;
      run = runs.run;
      targets = records.targets;
      callers = subst ReturnsToCallers units spoken.callers;
    } in
    let counted : IsCounted net program entry did (sum_by (unit_cycles (costs_of profile)) did) =
    run-counted profile image entry net program m.values states is.is_net is.nested.scopes of_net start.values.pc records returned.place
    (whole-along image entry net is.is_net is.units m.values states kept) in
    let costs : run_cost m.classes m.store m.caches did ≡ sum_by (unit_cycles (costs_of profile)) did =
    uncached-run image profile entry m start uncached did in
    let cycles = runs.cycles in
    let none = start.cycles in
    let whole : sum_by (unit_cycles (costs_of profile)) did ≡ (last_machine m machines).cycles = omega (arith, costs, cycles, none) in
    subst (λ (units : List RunUnit). IsCounted net program entry units (last_machine m machines).cycles) (sym units)
    (subst (IsCounted net program entry did) whole counted)

-- So its cycles are at most what no feasible counts exceed.
pub counted-bounds : (image : Image) (profile : Profile) (entry : ℕ) (net : Net) (program : Program) (bound : ℕ) →
    CountsRuns image profile entry net program →
    ((counts : ℕ → ℕ) → IsFeasible program counts → value_of program counts ≤ℤ pos bound) → Bounds image profile entry bound
counted-bounds image profile entry net program bound counted greatest m start machines spoken returned =
    let run = counted m start machines spoken returned in
    let value = run.value in
    let most = greatest (counts_of (length net.arcs) program.stages run.moments) run.feasible in
    omega (arith, ints)
