-- Runs of the machine as walks of the net that move its caches.
use Rattle.std.specs.Prelude.{◌≡◌, ℕ, ◌+◌, List}
use Rattle.age_model.specs.Moves.{Moves, latencies_along}
use Rattle.cache_config.specs.declared.profile.Profile.{Profile}
use Rattle.elf_mips.specs.declared.image.Image.{Image}
use Rattle.flow_net.specs.Paths.{IsRunPath}
use Rattle.flow_net.specs.declared.net.Net.{Net}
use Rattle.mips_machine.specs.Machine.{IsMachineStart, Machine}
use Rattle.mips_machine.specs.Run.{last_machine, own_costs}
use Rattle.net_model.specs.Moments.{Moment, arcs_of}
use Rattle.net_model.specs.Runs.{AreRunMoments}
use Rattle.net_model.specs.Walks.{IsWalk, own_range}
use Rattle.wcet_engine.specs.Headline.{IsSpokenOf, units_along}

-- What a run does in the net, one moment after the other, up to any state.
pub record IsWalkOf (profile : Profile) (entry : ℕ) (net : Net) (m : Machine) (machines : List Machine) : Type 0 where
  pub moments : List Moment
  pub units : AreRunMoments net entry (units_along m machines) moments
  -- The arcs are a path from arc 1 on.
  pub to : ℕ
  pub path : IsRunPath net.arcs (arcs_of moments) to
  -- At each place it makes the accesses of that place in their order.
  pub walk : IsWalk net (own_range net) moments
  -- Each access visits what the machine's caches make it visit.
  pub moves : Moves net m.caches.held moments
  -- The cycles are those of its instructions' classes and its stores, and the latencies of all that its accesses
  -- visited.
  pub cycles : (last_machine m machines).cycles
      ≡ own_costs profile.cycles profile.store (units_along m machines)
      + latencies_along net profile.levels profile.memory moments

-- Each run that the headline speaks of, whether its entry has returned or not, from any contents of the caches.
abbrev pub WalksNet : Image → Profile → (entry : ℕ) → Net → Type 0
WalksNet image profile entry net =
    (m : Machine) → IsMachineStart image profile entry m → (machines : List Machine) → IsSpokenOf image entry m machines →
    IsWalkOf profile entry net m machines
