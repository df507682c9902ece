-- The parts of a layout together are a program's net.
use Rattle.std.proofs.Common.{◌≡◌, ℕ, suc, get_or, sym, subst}
use Rattle.std.proofs.lemmas.Option.{slice_get-get_or}
use Rattle.elf_mips.specs.declared.image.Image.{Image}
use Rattle.flow_net.specs.declared.net.Net.{Net}
use Rattle.flow_net.specs.declared.net.Place.{Place}
use Rattle.net_model.specs.Accesses.{accesses_from}
use Rattle.net_model.specs.Contexts.{AreContexts}
use Rattle.net_model.specs.Net.{HasUnits, IsNet}
use Rattle.net_model.specs.Instances.{HasInstances}
use Rattle.net_model.specs.Targets.{unit_at}
use Rattle.net_model.specs.declared.unit.Content.TheVariants.{Unit as Stands}
use Rattle.unit_graph.specs.declared.graph.Graphs.{Graphs}
use Rattle.call_contexts.specs.Arcs.{AreAllArcs}
use Rattle.call_contexts.specs.Spots.{IsLaidProgram}
use Rattle.call_contexts.specs.declared.layout.Layout.{Layout}
use Rattle.call_contexts.proofs.HasItsArcs.{has-arcs}
use Rattle.call_contexts.proofs.HasItsPlaces.{IsNetOf, has-places}
use Rattle.call_contexts.proofs.LaidProgram.{node-is}

-- The parts of a net, as they are made of a layout.
pub record IsMadeOf (image : Image) (entry : ℕ) (graphs : Graphs) (layout : Layout) (net : Net) : Type 0 where
  pub of : IsNetOf graphs layout net
  pub arcs : AreAllArcs graphs.graphs layout net.arcs
  pub loops : HasInstances image net
  pub accesses : net.accesses ≡ accesses_from image 1 net.places

pub made-net : (image : Image) (entry : ℕ) (graphs : Graphs) (layout : Layout) (net : Net) → IsLaidProgram image entry graphs layout →
    IsMadeOf image entry graphs layout net → IsNet image entry net
made-net image entry graphs layout net laid made = record {
  contexts = subst (AreContexts image entry) (sym made.of.contexts) laid.layout_is.contexts;
  places = has-places image entry graphs layout net laid made.of;
  arcs = has-arcs image entry graphs layout net laid made.of made.arcs;
  loops = made.loops;
  accesses = made.accesses;
}

pub made-units : (image : Image) (entry : ℕ) (graphs : Graphs) (layout : Layout) (net : Net) → IsLaidProgram image entry graphs layout →
    IsNetOf graphs layout net → HasUnits image net
made-units image entry graphs layout net laid of = λ k d inside.
    let place : Place = get_or net.places k d in
    let placed = of.places.each (suc k) place (slice_get-get_or net.places k d inside) in
    let is = node-is image entry graphs layout place.context placed.position placed.node (suc k) laid placed.spot in
    record {
      unit = is.unit;
      stands = subst (λ (a : ℕ). unit_at image a ≡ Stands is.unit) (sym placed.same) is.stands;
    }
