-- The program of a net, its crude bound, and the limits that a program keeps.
use Rattle.std.specs.Prelude.{◌≡◌, ℕ, suc, ◌+◌, ◌-◌, ◌*◌, ◌^◌, ◌<◌, ◌≤◌, ◌==◌, ℤ, pos, negsuc, List, [], ◌++◌, length, map, All, Option, Some, None, if◌then◌else◌}
use Rattle.cache_config.specs.Instructions.{costs_of}
use Rattle.cache_config.specs.declared.profile.Profile.{Profile}
use Rattle.elf_mips.specs.declared.image.Image.{Image}
use Rattle.flow_net.specs.Numbers.{item_at, IsNumberOf}
use Rattle.flow_net.specs.declared.letter.ClassTable.{ClassTable}
use Rattle.flow_net.specs.declared.net.Net.{Net}
use Rattle.flow_net.specs.declared.net.NetArc.{NetArc}
use Rattle.flow_net.specs.declared.net.Place.{Place}
use Rattle.ipet_program.specs.Costs.{content_cost, content_full}
use Rattle.ipet_program.specs.Rows.{rows_of}
use Rattle.ipet_program.specs.Scopes.{turns_at}
use Rattle.ipet_program.specs.StageRows.{stage_rows}
use Rattle.ipet_program.specs.Stages.{further_stages}
use Rattle.ipet_program.specs.Sums.{numbered, sum_to}
use Rattle.ipet_program.specs.declared.program.Program.{Program}
use Rattle.ipet_program.specs.declared.program.Row.{Row}
use Rattle.ipet_program.specs.declared.program.Stage.{Stage}
use Rattle.net_model.specs.Units.{content_at}
use Rattle.net_model.specs.declared.unit.CodeUnit.{CodeUnit}
use Rattle.net_model.specs.declared.unit.Content.TheVariants.{Unit as Stands}

-- An arc has the value of the place that it goes to; 0 costs nothing.
abbrev pub arc_value : (ℕ → ℕ) → Option NetArc → ℤ
arc_value price None = pos 0
arc_value price (Some arc) = pos (price arc.to)

-- An arc is taken at most as often as the loops round its source let that be visited; arc 1 comes once.
abbrev pub arc_cap : Net → Option NetArc → ℕ
arc_cap net None = 1
arc_cap net (Some arc) = if arc.from == 0 then 1 else turns_at net arc.from

-- The values and the caps of the arcs.
abbrev pub arc_values : Net → (price : ℕ → ℕ) → List ℤ
arc_values net price = numbered (λ column. arc_value price (item_at column net.arcs)) (length net.arcs)

abbrev pub arc_caps : Net → List ℕ
arc_caps net = numbered (λ column. arc_cap net (item_at column net.arcs)) (length net.arcs)

-- The crude bound: each place's price, as often as the loops round it let it be visited.
abbrev pub crude_of : Net → (price : ℕ → ℕ) → ℕ
crude_of net price = sum_to (length net.places) (λ place. price place * turns_at net place)

-- The greatest crude bound of a program that is built: 2^63 - 1.
abbrev pub crude_limit : ℕ
crude_limit = 2 ^ 63 - 1

-- The plain part of the program of a net whose places have these prices: its columns are the arcs.
pub record IsProgramOf (net : Net) (price : ℕ → ℕ) (program : Program) : Type 0 where
  pub outside : price 0 ≡ 0
  pub columns : program.columns ≡ length net.arcs
  pub rows : program.rows ≡ rows_of net
  pub value : program.value ≡ numbered (λ column. arc_value price (item_at column net.arcs)) (length net.arcs)
  pub caps : program.caps ≡ numbered (λ column. arc_cap net (item_at column net.arcs)) (length net.arcs)
  pub stages : program.stages ≡ []
  -- Each place costs something.
  pub costly : (place : ℕ) → IsNumberOf net.places place → 1 ≤ price place
  pub low : crude_of net price ≤ crude_limit

-- The price of a place is the cycles that each visit of its unit takes.
abbrev pub price_at : Profile → Image → (number : ℕ) → Option Place → ℕ
price_at profile image number None = 0
price_at profile image number (Some place) =
    content_cost (costs_of profile) number (content_at image place.address) place.address

abbrev pub place_price : Profile → Image → Net → ℕ → ℕ
place_price profile image net number = price_at profile image number (item_at number net.places)

-- The most that a visit of a place costs: each access of its unit goes through all stages of its chain.
abbrev pub full_at : Profile → Image → (number : ℕ) → Option Place → ℕ
full_at profile image number None = 0
full_at profile image number (Some place) =
    content_full (costs_of profile) number (content_at image place.address) place.address

abbrev pub full_price : Profile → Image → Net → ℕ → ℕ
full_price profile image net number = full_at profile image number (item_at number net.places)

-- The program of a net and its classes under a profile: a column for each arc and then for each further stage; the
-- rows of the plain part, and then those of the stages; an arc has the cycles of the place that it goes to, with the
-- first stage of each access, and a stage its latency. A stage counts at most as often as the loops round its place
-- let that be visited.
pub record IsFlowProgram (net : Net) (classes : ClassTable) (profile : Profile) (image : Image) (program : Program) : Type 0 where
  pub stages : program.stages ≡ further_stages net (costs_of profile) classes
  pub columns : program.columns ≡ length net.arcs + length program.stages
  pub rows : program.rows ≡ rows_of net ++ stage_rows net (suc (length net.arcs)) program.stages
  pub value : program.value ≡ arc_values net (place_price profile image net)
      ++ map (λ (stage : Stage). pos stage.latency) program.stages
  pub caps : program.caps ≡ arc_caps net ++ map (λ (stage : Stage). turns_at net stage.place) program.stages
  -- Each place costs something.
  pub costly : (place : ℕ) → IsNumberOf net.places place → 1 ≤ place_price profile image net place
  -- The crude bound has every stage of every access.
  pub low : crude_of net (full_price profile image net) ≤ crude_limit

-- A unit of the image stands at an address, and its words have no fault.
pub record IsUnitAt (image : Image) (address : ℕ) : Type 0 where
  pub unit : CodeUnit
  pub stands : content_at image address ≡ Stands unit

-- Each place of the net stands for such a unit.
abbrev pub FitsImage : Image → Net → Type 0
FitsImage image net = All (λ (place : Place). IsUnitAt image place.address) net.places

-- The numbers of a row keep the limits under which sums over counts fit 128 bits.
pub data IsSmall : ℤ → Type 0 where
  above : (n : ℕ) → n ≤ 2 ^ 33 → IsSmall (pos n)
  below : (n : ℕ) → n < 2 ^ 33 → IsSmall (negsuc n)

pub record IsSmallRow (columns : ℕ) (row : Row) : Type 0 where
  pub terms : All (λ term. (1 ≤ term.column) × (term.column ≤ columns) × IsSmall term.factor) row.terms
  pub short : length row.terms ≤ 2 ^ 28
  pub right : IsSmall row.right

-- What the check of a certificate asks of a program.
pub record IsCheckable (program : Program) : Type 0 where
  pub few : program.columns ≤ 2 ^ 28
  pub rows : All (IsSmallRow program.columns) program.rows
  pub values : All IsSmall program.value
  pub value : length program.value ≡ program.columns
  pub caps : length program.caps ≡ program.columns
