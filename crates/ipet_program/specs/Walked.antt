-- What is known of the moments of a run, from which its counts follow, and what these are.
use Rattle.std.specs.Prelude.{◌≡◌, ℕ, ◌+◌, pos, List, length, Option, Some, None}
use Rattle.age_model.specs.Classes.{TableHolds}
use Rattle.age_model.specs.Moves.{Moves, latencies_along}
use Rattle.cache_config.specs.Instructions.{Costs, costs_of}
use Rattle.cache_config.specs.declared.profile.Profile.{Profile}
use Rattle.elf_mips.specs.declared.image.Image.{Image}
use Rattle.flow_net.specs.Numbers.{item_at}
use Rattle.flow_net.specs.Paths.{IsRunPath}
use Rattle.flow_net.specs.Visits.{KeepsBounds, targets_along}
use Rattle.flow_net.specs.declared.letter.ClassTable.{ClassTable}
use Rattle.flow_net.specs.declared.net.Net.{Net}
use Rattle.flow_net.specs.declared.net.Place.{Place}
use Rattle.ipet_program.specs.Costs.{own_cost, slot_cost}
use Rattle.ipet_program.specs.Counts.{IsFeasible, counts_of, cycles_along, value_of}
use Rattle.ipet_program.specs.declared.program.Program.{Program}
use Rattle.lru_concrete.specs.Chains.{Held, levels_of}
use Rattle.lru_concrete.specs.declared.level.Level.{Level}
use Rattle.net_model.specs.Accesses.{accesses_from}
use Rattle.net_model.specs.Moments.{Moment, arcs_of}
use Rattle.net_model.specs.Net.{HasUnits}
use Rattle.net_model.specs.Units.{content_at}
use Rattle.net_model.specs.Walks.{IsWalk}
use Rattle.net_model.specs.declared.unit.Content.{Content}
use Rattle.net_model.specs.declared.unit.Content.TheVariants.{Unit as Stands, Fault}

-- Moments of a run whose entry has returned: a walk from arc 1 to an arc to 0 that keeps the bounds of the loops, on
-- which each access visits what caches of these levels make it visit.
pub record IsWholeWalk (net : Net) (levels : List Level) (range : ℕ → ℕ → Type 0) (moments : List Moment) : Type 0 where
  pub walk : IsWalk net range moments
  pub path : IsRunPath net.arcs (arcs_of moments) 0
  pub bounds : KeepsBounds net (targets_along net.arcs (arcs_of moments))
  pub caches : List Held
  pub of_levels : levels_of caches ≡ levels
  pub moves : Moves net caches moments

-- The cycles of a unit without the latencies of its accesses: those of its instruction and of its slot by themselves.
abbrev pub content_own : Costs → Content → ℕ
content_own costs (Stands unit) = own_cost costs unit.instr + slot_cost costs unit.slot
content_own costs (Fault kind place) = 0

abbrev pub own_at : Profile → Image → Option Place → ℕ
own_at profile image None = 0
own_at profile image (Some place) = content_own (costs_of profile) (content_at image place.address)

abbrev pub place_own : Profile → Image → Net → ℕ → ℕ
place_own profile image net number = own_at profile image (item_at number net.places)

-- The cycles of a run that does these things: those of the units at the places that it comes to, and the latencies of
-- all visits of its accesses.
abbrev pub walk_cycles : Profile → Image → Net → List Moment → ℕ
walk_cycles profile image net moments =
    cycles_along (place_own profile image net) net.arcs moments
    + latencies_along net profile.levels profile.memory moments

-- The counts of a run: they are feasible, and their value is its cycles.
pub record AreWalkCounts (net : Net) (profile : Profile) (image : Image) (program : Program) (moments : List Moment) : Type 0 where
  pub feasible : IsFeasible program (counts_of (length net.arcs) program.stages moments)
  pub value : value_of program (counts_of (length net.arcs) program.stages moments) ≡ pos (walk_cycles profile image net moments)

-- Accesses may go to any addresses.
abbrev pub anywhere : (access address : ℕ) → Type 0
anywhere access address = Unit {0}

-- The program counts each run of the net for which the class table holds, whose accesses are those of the units of an
-- image, whatever their addresses are. (So it counts the walks of each narrower range: `walk-counts` of
-- proofs/WalkCounts.antt.)
abbrev pub CountsWalks : Net → ClassTable → Profile → Image → Program → Type 0
CountsWalks net classes profile image program =
    net.accesses ≡ accesses_from image 1 net.places → HasUnits image net →
    (moments : List Moment) → IsWholeWalk net profile.levels anywhere moments →
    TableHolds net classes moments → AreWalkCounts net profile image program moments
