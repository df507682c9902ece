-- The flow program of a net and its classes counts each walk for which the classes hold.
use Rattle.std.proofs.Common.{◌≡◌, ℕ, suc, ◌+◌, ◌-◌, List, ◌++◌, length, map, All, Option, refl, sym, ap, ◌∙◌, subst, arith}
use Rattle.std.specs.Prelude.{sum_by}
use Rattle.std.proofs.lemmas.Int.{ints}
use Rattle.std.proofs.lemmas.List.Elements.{All-append, All-same}
use lib.IntN.{ℤ, pos}
use Rattle.age_model.specs.Moves.{latencies_along}
use Rattle.cache_config.specs.Instructions.{Costs, costs_of}
use Rattle.cache_config.specs.declared.profile.Profile.{Profile}
use Rattle.elf_mips.specs.declared.image.Image.{Image}
use Rattle.flow_net.specs.Nested.{IsNested}
use Rattle.flow_net.specs.Numbers.{item_at}
use Rattle.flow_net.specs.declared.letter.ClassTable.{ClassTable}
use Rattle.flow_net.specs.declared.net.Net.{Net}
use Rattle.ipet_program.specs.Counts.{IsFeasible, IsMet, counts_of, cycles_along, path_cost, value_from, value_of}
use Rattle.age_model.specs.Classes.{HasRows, TableHolds}
use Rattle.ipet_program.specs.Programs.{IsFlowProgram, arc_value, arc_values, place_price}
use Rattle.ipet_program.specs.Rows.{rows_of}
use Rattle.ipet_program.specs.StageRows.{stage_rows}
use Rattle.ipet_program.specs.Stages.{further_stages}
use Rattle.ipet_program.specs.Walked.{AreWalkCounts, CountsWalks, IsWholeWalk, anywhere, place_own, walk_cycles}
use Rattle.ipet_program.specs.declared.program.Program.{Program}
use Rattle.ipet_program.specs.declared.program.Stage.{Stage}
use Rattle.net_model.specs.Accesses.{accesses_from}
use Rattle.net_model.specs.Moments.{Moment, arcs_of}
use Rattle.net_model.specs.Net.{HasUnits}
use Rattle.ipet_program.proofs.Exchange.{IsColumn}
use Rattle.ipet_program.proofs.MomentCycles.{first_spent, moments-spent, walk-visits}
use Rattle.ipet_program.proofs.Numbered.{length-numbered}
use Rattle.ipet_program.proofs.PlaceCycles.{path-parts, place_firsts, walk-firsts}
use Rattle.ipet_program.proofs.Placed.{AreAt, are-at, are-moved}
use Rattle.ipet_program.proofs.RunCounts.{rows-met}
use Rattle.ipet_program.proofs.RunSums.{chain-columns, chain-of_run}
use Rattle.ipet_program.proofs.StageValues.{arcs-value, stages-value, stages_spent, value_from-append}
use Rattle.ipet_program.proofs.StagesMet.{stages-met}

module _ (net : Net) (nested : IsNested net) (profile : Profile) (image : Image) (classes : ClassTable) (program : Program)
    (has : HasRows net profile.levels classes) (is : IsFlowProgram net classes profile image program)
    (range : ℕ → ℕ → Type 0) (moments : List Moment) (whole : IsWholeWalk net profile.levels range moments) where
  abbrev arcs : ℕ
  arcs = length net.arcs

  abbrev counts : ℕ → ℕ
  counts = counts_of arcs program.stages moments

  columns : All (IsColumn arcs) (arcs_of moments)
  columns = chain-columns net.arcs 0 (arcs_of moments) 0 (chain-of_run net.arcs (arcs_of moments) 0 whole.path)

  feasible : TableHolds net classes moments → IsFeasible program counts
  feasible holds =
      All-same (IsMet counts) program.rows (rows_of net ++ stage_rows net (suc arcs) program.stages) is.rows
      (All-append (IsMet counts) (rows_of net) (stage_rows net (suc arcs) program.stages)
      (rows-met net nested.scopes program.stages moments whole.path whole.bounds)
      (stages-met net nested range classes (costs_of profile) program.stages moments whole.walk columns holds is.stages))

  value : net.accesses ≡ accesses_from image 1 net.places → HasUnits image net →
      value_of program counts ≡ pos (walk_cycles profile image net moments)
  value all units =
      let costs : Costs = costs_of profile in
      let stages : List Stage = program.stages in
      let price : ℕ → ℕ = place_price profile image net in
      let latencies : List ℤ = map (λ (stage : Stage). pos stage.latency) stages in
      let parts : value_of program counts ≡ value_from 1 counts (arc_values net price ++ latencies) =
      ap (value_from 1 counts) is.value in
      let split = value_from-append 1 counts (arc_values net price) latencies in
      let first : value_from 1 counts (arc_values net price) ≡ pos (cycles_along price net.arcs moments) =
      arcs-value net price stages moments columns in
      let long : 1 + length (arc_values net price) ≡ suc arcs =
      (let e = length-numbered (λ j. arc_value price (item_at j net.arcs)) arcs in omega (arith, e)) in
      let stands : AreAt (λ n. item_at (n - arcs) stages) (suc arcs) stages =
      are-moved (λ n. item_at n stages) (λ n. item_at (n - arcs) stages) 1 (suc arcs)
      (λ i. ap (λ (n : ℕ). item_at n stages) (omega arith)) stages (are-at stages) in
      let further : value_from (1 + length (arc_values net price)) counts latencies ≡ pos (sum_by (stages_spent stages) moments) =
      ap (λ (n : ℕ). value_from n counts latencies) long
      ∙ stages-value arcs stages moments columns (suc arcs) (omega arith) stages stands in
      let cost = path-parts net nested profile image all units (arcs_of moments) in
      let firsts = walk-firsts net nested range costs moments whole.walk whole.path in
      let spent : sum_by (first_spent net costs) moments + sum_by (stages_spent stages) moments
      ≡ latencies_along net profile.levels profile.memory moments =
      ap (λ (l : List Stage). sum_by (first_spent net costs) moments + sum_by (stages_spent l) moments) is.stages
      ∙ moments-spent net costs classes has moments
      (walk-visits net range profile.levels moments whole.walk whole.caches whole.of_levels whole.moves) in
      let cycles : cycles_along price net.arcs moments + sum_by (stages_spent stages) moments ≡ walk_cycles profile image net moments =
      omega (arith, cost, firsts, spent) in
      omega (arith, ints)

-- The counts of such a walk are feasible for the program, and their value is the walk's cycles.
pub walk-counts : (net : Net) → IsNested net → (profile : Profile) (image : Image) (classes : ClassTable) (program : Program) →
    HasRows net profile.levels classes → IsFlowProgram net classes profile image program →
    net.accesses ≡ accesses_from image 1 net.places → HasUnits image net →
    (range : ℕ → ℕ → Type 0) (moments : List Moment) → IsWholeWalk net profile.levels range moments →
    TableHolds net classes moments → AreWalkCounts net profile image program moments
walk-counts net nested profile image classes program has is all units range moments whole holds =
    record {
      feasible = feasible net nested profile image classes program has is range moments whole holds;
      value = value net nested profile image classes program has is range moments whole all units;
    }

pub counts-walks : (net : Net) → IsNested net → (profile : Profile) (image : Image) (classes : ClassTable) (program : Program) →
    HasRows net profile.levels classes → IsFlowProgram net classes profile image program →
    CountsWalks net classes profile image program
counts-walks net nested profile image classes program has is all units moments whole holds =
    walk-counts net nested profile image classes program has is all units anywhere moments whole holds
