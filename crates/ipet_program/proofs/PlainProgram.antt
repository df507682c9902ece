-- A flow program without further stages is its plain part.
use Rattle.std.proofs.Common.{◌≡◌, ℕ, ℤ, zero, suc, ◌+◌, ◌*◌, ◌≤◌, List, [], ◌∷◌, ◌++◌, length, map, Option, Some, None, pos, refl, sym, ◌∙◌, ap, subst, arith}
use Rattle.std.specs.Prelude.{sum_by, slice_index_or}
use Rattle.std.specs.List.{AllZip}
use Rattle.std.proofs.Math.Nat.{mul-le-mul_right}
use Rattle.std.proofs.lemmas.List.{append-nil}
use Rattle.std.proofs.lemmas.List.Sums.{sum_by-cons}
use Rattle.cache_config.specs.Chains.{side_of}
use Rattle.cache_config.specs.Instructions.{Costs, costs_of, stages_of}
use Rattle.cache_config.specs.declared.profile.Profile.{Profile}
use Rattle.elf_mips.specs.declared.image.Image.{Image}
use Rattle.flow_net.specs.Numbers.{item_at}
use Rattle.flow_net.specs.declared.letter.ClassTable.{ClassTable}
use Rattle.flow_net.specs.declared.letter.Level2.{Level2}
use Rattle.flow_net.specs.declared.net.Access.{Access}
use Rattle.flow_net.specs.declared.net.Net.{Net}
use Rattle.flow_net.specs.declared.net.Place.{Place}
use Rattle.lru_concrete.specs.declared.level.Level.{Level}
use Rattle.lru_concrete.specs.declared.level.Side.{Side}
use Rattle.net_model.specs.Accesses.{kind_of, unit_accesses}
use Rattle.net_model.specs.Units.{content_at}
use Rattle.net_model.specs.declared.unit.Content.{Content}
use Rattle.net_model.specs.declared.unit.Content.TheVariants.{Unit as Stands, Fault}
use Rattle.ipet_program.specs.Costs.{all_stages, content_cost, content_full, first_stage, first_stages}
use Rattle.age_model.specs.Classes.{HasRows, IsRowOf, chain_length}
use Rattle.ipet_program.specs.Programs.{IsFlowProgram, IsProgramOf, arc_caps, arc_values, crude_of, full_at, full_price, place_price, price_at}
use Rattle.ipet_program.specs.Rows.{rows_of}
use Rattle.ipet_program.specs.Scopes.{turns_at}
use Rattle.ipet_program.specs.StageRows.{stage_rows}
use Rattle.ipet_program.specs.Stages.{further_stages, stages_by}
use Rattle.ipet_program.specs.Sums.{sum_to}
use Rattle.ipet_program.specs.declared.program.Program.{Program}
use Rattle.ipet_program.specs.declared.program.Row.{Row}
use Rattle.ipet_program.specs.declared.program.Stage.{Stage}

-- ---- A place costs no more with its first stages than with all.
first_least : (latencies : List ℕ) → slice_index_or latencies 0 0 ≤ sum_by (λ (latency : ℕ). latency) latencies
first_least [] = omega arith
first_least (latency ∷ more) = omega (arith, sum_by-cons (λ (l : ℕ). l) latency more)

stages-least : (costs : Costs) (accesses : List Access) → first_stages costs accesses ≤ sum_by (all_stages costs) accesses
stages-least costs [] = omega arith
stages-least costs (access ∷ more) =
    omega (
      arith,
      sum_by-cons (first_stage costs) access more,
      sum_by-cons (all_stages costs) access more,
      first_least (stages_of costs (kind_of access.role)),
      stages-least costs more,
    )

content-least : (costs : Costs) (number : ℕ) (content : Content) (address : ℕ) →
    content_cost costs number content address ≤ content_full costs number content address
content-least costs number (Stands unit) address = omega (arith, stages-least costs (unit_accesses number unit address))
content-least costs number (Fault kind place) address = omega arith

at-least : (profile : Profile) (image : Image) (number : ℕ) (place : Option Place) →
    price_at profile image number place ≤ full_at profile image number place
at-least profile image number None = omega arith
at-least profile image number (Some place) =
    content-least (costs_of profile) number (content_at image place.address) place.address

pub price-least : (profile : Profile) (image : Image) (net : Net) (place : ℕ) →
    place_price profile image net place ≤ full_price profile image net place
price-least profile image net place = at-least profile image place (item_at place net.places)

crude_to-least : (price full turns : ℕ → ℕ) → ((place : ℕ) → price place ≤ full place) → (n : ℕ) →
    sum_to n (λ place. price place * turns place) ≤ sum_to n (λ place. full place * turns place)
crude_to-least price full turns least zero = omega arith
crude_to-least price full turns least (suc n) =
    omega (arith, crude_to-least price full turns least n, mul-le-mul_right (turns (suc n)) (least (suc n)))

pub crude-least : (profile : Profile) (image : Image) (net : Net) →
    crude_of net (place_price profile image net) ≤ crude_of net (full_price profile image net)
crude-least profile image net =
    crude_to-least (place_price profile image net) (full_price profile image net) (turns_at net) (price-least profile image net)
    (length net.places)

-- ---- The plain part.
pub plain-program : (net : Net) (classes : ClassTable) (profile : Profile) (image : Image) (program : Program) →
    IsFlowProgram net classes profile image program → program.stages ≡ [] → IsProgramOf net (place_price profile image net) program
plain-program net classes profile image program is none = record {
  outside = refl;
  columns =
      let all : program.columns ≡ length net.arcs + 0 =
      subst (λ (stages : List Stage). program.columns ≡ length net.arcs + length stages) none is.columns in
      omega (arith, all);
  rows = subst (λ (stages : List Stage). program.rows ≡ rows_of net ++ stage_rows net (suc (length net.arcs)) stages) none is.rows
      ∙ append-nil (rows_of net);
  value = subst (λ (stages : List Stage). program.value
      ≡ arc_values net (place_price profile image net) ++ map (λ (stage : Stage). pos stage.latency) stages) none is.value
      ∙ append-nil (arc_values net (place_price profile image net));
  caps = subst (λ (stages : List Stage). program.caps ≡ arc_caps net ++ map (λ (stage : Stage). turns_at net stage.place) stages) none is.caps
      ∙ append-nil (arc_caps net);
  stages = none;
  costly = is.costly;
  low = omega (arith, is.low, crude-least profile image net);
}

-- ---- Without caches no access has a further stage.
pub chain-none : (side : Option Side) → chain_length [] side ≡ 0
chain-none None = refl
chain-none (Some side) = refl

no_stages_by : (net : Net) (costs : Costs) (number column : ℕ) (accesses : List Access) (rows : List (List Level2)) →
    AllZip (IsRowOf net []) accesses rows → stages_by net costs number column accesses rows ≡ []
no_stages_by net costs number column [] rows has = refl
no_stages_by net costs number column (access ∷ more) [] has = refl
no_stages_by net costs number column (access ∷ more) ([] ∷ rows) has =
    no_stages_by net costs (suc number) (column + 0) more rows has.1
no_stages_by net costs number column (access ∷ more) ((entry ∷ row) ∷ rows) has =
    absurd (omega (arith, has.0.chain, chain-none (side_of (kind_of access.role))))

pub no-stages : (net : Net) (profile : Profile) (classes : ClassTable) → profile.levels ≡ [] → HasRows net profile.levels classes →
    further_stages net (costs_of profile) classes ≡ []
no-stages net profile classes uncached has =
    no_stages_by net (costs_of profile) 1 (suc (length net.arcs)) net.accesses classes.rows
    (subst (λ (levels : List Level). HasRows net levels classes) uncached has)

pub uncached-program : (net : Net) (classes : ClassTable) (profile : Profile) (image : Image) (program : Program) →
    profile.levels ≡ [] → HasRows net profile.levels classes → IsFlowProgram net classes profile image program →
    IsProgramOf net (place_price profile image net) program
uncached-program net classes profile image program uncached has is =
    plain-program net classes profile image program is (is.stages ∙ no-stages net profile classes uncached has)
