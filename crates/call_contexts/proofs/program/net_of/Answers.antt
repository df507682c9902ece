-- The parts are made of one layout, so that together they are its net.
use Rattle.std.proofs.Common.{List, map, refl, sym, ap, subst, ◌∙◌}
use Rattle.flow_net.specs.declared.net.Net.{Net}
use Rattle.flow_net.specs.declared.net.Place.{Place}
use Rattle.net_model.specs.Accesses.{accesses_from}
use Rattle.call_contexts.specs.Arcs.{AreAllArcs}
use Rattle.call_contexts.specs.Layout.{IsLaid}
use Rattle.call_contexts.proofs.HasItsPlaces.{IsNetOf}
use Rattle.call_contexts.proofs.WholeNet.{made-net, made-units}
use Rattle.call_contexts.proofs.Parts.{laid-program}
use Rattle.call_contexts.proofs.program.net_of.Goals as goal

pub arcs_of-requires : goal.arcs_of-requires
arcs_of-requires c =
    let (image, entry, has) = c.requires in
    record { program = (image, entry, laid-program image entry c.args.graphs.now c.args.nests.now c.args.layout.now has) }

pub accesses_of-requires-clause-program : goal.accesses_of-requires-clause-program
accesses_of-requires-clause-program c =
    let (image, entry, has) = c.requires in
    (image, entry, laid-program image entry c.args.graphs.now c.args.nests.now c.args.layout.now has)

pub returns-clause-net : goal.returns-clause-net
returns-clause-net c = λ image entry has.
    let graphs = c.args.graphs.now in
    let layout = c.args.layout.now in
    let net : Net = record {
      contexts = c.in_ok-contexts.contexts;
      places = c.from_vec.result;
      arcs = c.from_vec-2.result;
      loops = c.in_ok-made.made.instances;
      accesses = c.from_vec-3.result;
    } in
    let laid = laid-program image entry graphs c.args.nests.now layout has in
    let of : IsNetOf graphs layout net = record {
      contexts = c.in_ok-contexts.ensures ∙ c.as_slice.ensures.keys;
      places = subst (IsLaid graphs.graphs layout) (sym c.from_vec.ensures) c.in_ok-places.ensures.laid;
    } in
    made-net image entry graphs layout net laid (record {
      of = of;
      arcs = subst (AreAllArcs graphs.graphs layout) (sym c.from_vec-2.ensures) c.in_ok-arcs.ensures.arcs;
      loops = c.in_ok-made.ensures.instances image entry has net (record {
        contexts = of.contexts;
        places = of.places;
        loops = refl;
        scopes = ap (λ (places : List Place). map (λ (p : Place). p.scope) places) c.from_vec.ensures
            ∙ c.in_ok-places.ensures.scopes ∙ c.deref.ensures.value;
      });
      accesses = c.from_vec-3.ensures ∙ c.in_ok-accesses.ensures image entry laid
          ∙ ap (λ (places : List Place). accesses_from image 1 places) (c.deref-2.ensures.value ∙ sym c.from_vec.ensures);
    })

pub returns-clause-units : goal.returns-clause-units
returns-clause-units c = λ image entry has.
    let graphs = c.args.graphs.now in
    let layout = c.args.layout.now in
    let net : Net = record {
      contexts = c.in_ok-contexts.contexts;
      places = c.from_vec.result;
      arcs = c.from_vec-2.result;
      loops = c.in_ok-made.made.instances;
      accesses = c.from_vec-3.result;
    } in
    made-units image entry graphs layout net (laid-program image entry graphs c.args.nests.now layout has) (record {
      contexts = c.in_ok-contexts.ensures ∙ c.as_slice.ensures.keys;
      places = subst (IsLaid graphs.graphs layout) (sym c.from_vec.ensures) c.in_ok-places.ensures.laid;
    })
