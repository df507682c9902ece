-- Runs in the net of a program, and how its flow program counts them.
use Rattle.std.specs.Prelude.{◌≡◌, ℕ, pos, List, length}
use Rattle.cache_config.specs.declared.profile.Profile.{Profile}
use Rattle.elf_mips.specs.declared.image.Image.{Image}
use Rattle.elf_mips.specs.Segments.{code_at as image_code}
use Rattle.flow_net.specs.Paths.{IsRunPath}
use Rattle.flow_net.specs.declared.net.Net.{Net}
use Rattle.ipet_program.specs.Counts.{IsFeasible, counts_of, value_of}
use Rattle.ipet_program.specs.declared.program.Program.{Program}
use Rattle.mips_decode.specs.Run.{HasReturned}
use Rattle.mips_decode.specs.State.{State}
use Rattle.mips_decode.specs.Units.{RunUnit}
use Rattle.mips_machine.specs.Machine.{IsMachineStart, Machine}
use Rattle.mips_machine.specs.Run.{last_machine, values_of}
use Rattle.net_model.specs.Moments.{Moment, VisitNone, arcs_of}
use Rattle.net_model.specs.Runs.{AreRunMoments, GoesAlong, IsKeptRun}
use Rattle.wcet_engine.specs.Headline.{IsSpokenOf, units_along}

-- Each run whose indirect transfers go to recorded targets and which returns to its callers goes along a path of the
-- net, up to any state.
abbrev pub HasPaths : Image → (entry : ℕ) → Net → Type 0
HasPaths image entry net =
    (s : State) (states : List State) → IsKeptRun image entry s states → GoesAlong net (image_code image.segments) s states

-- A run of these units that takes these cycles is counted by the program of a net.
pub record IsCounted (net : Net) (program : Program) (entry : ℕ) (did : List RunUnit) (cycles : ℕ) : Type 0 where
  -- What it does in the net, one moment after the other: the arcs that it takes and the accesses that it makes.
  pub moments : List Moment
  pub units : AreRunMoments net entry did moments
  -- Without caches no access visits one.
  pub uncached : VisitNone moments
  -- The arcs are a path from arc 1 to an arc to 0.
  pub path : IsRunPath net.arcs (arcs_of moments) 0
  -- How often it takes each arc are counts that the program allows.
  pub feasible : IsFeasible program (counts_of (length net.arcs) program.stages moments)
  -- Their value is the cycles of the run.
  pub value : value_of program (counts_of (length net.arcs) program.stages moments) ≡ pos cycles

-- Each run of the machine that the headline speaks of and whose entry has returned is so counted, with its cycles.
abbrev pub CountsRuns : Image → Profile → (entry : ℕ) → Net → Program → Type 0
CountsRuns image profile entry net program =
    (m : Machine) → IsMachineStart image profile entry m → (machines : List Machine) → IsSpokenOf image entry m machines →
    HasReturned m.values (values_of machines) →
    IsCounted net program entry (units_along m machines) (last_machine m machines).cycles
