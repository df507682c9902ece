-- There is a mark for each place and for 0.
use Rattle.std.proofs.Common.{◌≤◌, All, List, Bool, ap, arith, length, subst, sym}
use Rattle.flow_net.specs.declared.net.NetArc.{NetArc}
use Rattle.flow_net.specs.declared.net.Place.{Place}
use Rattle.fixpoint.specs.Upward.{IsArc}
use Rattle.fixpoint.proofs.UpwardNets.{each-all, each-of}
use Rattle.fixpoint.proofs.upward.are_reached.Goals as goal

pub mark_ends-requires-clause-ends : goal.mark_ends-requires-clause-ends
mark_ends-requires-clause-ends c = λ k d inside.
    let low : All (λ (arc : NetArc). arc.to ≤ length c.args.net.now.places) c.as_slice-2.result.now =
    subst (λ (xs : List NetArc). All (λ (arc : NetArc). arc.to ≤ length c.args.net.now.places) xs) (sym c.as_slice-2.ensures)
    (each-all (λ (arc : NetArc). arc.to ≤ length c.args.net.now.places) c.args.net.now.arcs
    (λ number arc there.
    (each-of (IsArc (length c.args.net.now.places)) c.args.net.now.arcs c.requires number arc there).to)) in
    omega (
      arith,
      low k d inside,
      ap (λ (xs : List Bool). length xs) c.deref_mut.ensures.value,
      c.in_ok-reached.ensures.len,
      ap (λ (xs : List Place). length xs) c.as_slice.ensures,
    )
