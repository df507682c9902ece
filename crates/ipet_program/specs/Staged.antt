-- A program with further stages, as a solver reads it: the plain part, and stages in the order of their columns.
use Rattle.std.specs.Prelude.{◌≡◌, ◌⊎◌, ℕ, suc, ◌+◌, ◌≤◌, ◌==◌, pos, List, [], ◌∷◌, ◌++◌, length, map, sum_by, if◌then◌else◌}
use Rattle.cache_config.specs.declared.profile.Profile.{Profile}
use Rattle.elf_mips.specs.declared.image.Image.{Image}
use Rattle.flow_net.specs.Numbers.{IsNumberOf}
use Rattle.flow_net.specs.declared.net.Net.{Net}
use Rattle.ipet_program.specs.Programs.{arc_values, crude_limit, crude_of, place_price}
use Rattle.ipet_program.specs.Rows.{rows_of}
use Rattle.ipet_program.specs.StageRows.{stage_rows}
use Rattle.ipet_program.specs.declared.program.Program.{Program}
use Rattle.ipet_program.specs.declared.program.Stage.{Stage}
use Rattle.net_model.specs.Accesses.{accesses_from}
use Rattle.net_model.specs.Net.{HasUnits}

-- The latencies of the stages of a place.
abbrev pub latency_at : (place : ℕ) → Stage → ℕ
latency_at place stage = if stage.place == place then stage.latency else 0

abbrev pub latencies_at : List Stage → (place : ℕ) → ℕ
latencies_at stages place = sum_by (latency_at place) stages

-- These stages have the columns from the given one on. Each follows the arcs into its place, or the stage of the column
-- before it, which is of the same place.
abbrev pub Follow : Net → (column last : ℕ) → List Stage → Type 0
Follow net column last [] = Unit {0}
Follow net column last (stage ∷ more) =
    IsNumberOf net.places stage.place
    × ((stage.before ≡ 0) ⊎ ((suc stage.before ≡ column) × (stage.place ≡ last)))
    × Follow net (suc column) stage.place more

-- The program of a net at these prices of its places, whatever the classes are. What a place and all its stages cost has a
-- crude bound of at most the limit.
pub record IsStagedProgram (net : Net) (price : ℕ → ℕ) (program : Program) : Type 0 where
  pub outside : price 0 ≡ 0
  pub columns : program.columns ≡ length net.arcs + length program.stages
  pub rows : program.rows ≡ rows_of net ++ stage_rows net (suc (length net.arcs)) program.stages
  pub value : program.value ≡ arc_values net price ++ map (λ (stage : Stage). pos stage.latency) program.stages
  pub follow : Follow net (suc (length net.arcs)) 0 program.stages
  pub costly : (place : ℕ) → IsNumberOf net.places place → 1 ≤ price place
  pub low : crude_of net (λ place. price place + latencies_at program.stages place) ≤ crude_limit

-- So is the program of a net whose accesses are those of the units of an image.
abbrev pub IsStagedFor : Net → Profile → Image → Program → Type 0
IsStagedFor net profile image program =
    net.accesses ≡ accesses_from image 1 net.places → HasUnits image net →
    IsStagedProgram net (place_price profile image net) program
