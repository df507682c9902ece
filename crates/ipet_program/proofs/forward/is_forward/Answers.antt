-- A net of this kind is nested.
use Rattle.std.proofs.Common.{◌<◌, List, length, All, subst, sym, ◌∙◌}
use Rattle.flow_net.specs.declared.net.Context.{Context}
use Rattle.ipet_program.specs.Forward.{IsLeft}
use Rattle.ipet_program.proofs.ForwardNets.{nested-forward}
use Rattle.ipet_program.proofs.forward.is_forward.Goals as goal

pub returns-clause-nested : goal.returns-clause-nested
returns-clause-nested c =
    let net = c.args.net.now in
    nested-forward net (record {
      parents = subst (λ (contexts : List Context). All
          (λ (context : Context). context.parent < length contexts) contexts)
          c.as_slice-3.ensures c.if-not-have_parents.ensures.parents;
      scopes = c.if-not-has_scopes.ensures.scopes;
      places = c.if-not-are_places.ensures.places;
      loops = c.if-not-are_loops.ensures.loops;
      arcs = c.if-not-are_arcs.ensures.arcs;
      left = subst IsLeft c.as_slice-4.ensures c.if-not-is_left.ensures.left;
      accesses = c.if-not-have_places.ensures.places;
    })
