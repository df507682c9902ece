-- The start has come to the first place, and the run keeps what holds then.
use Rattle.std.specs.Prelude.{ℕ, ◌+◌, ◌≤◌, List, length, slice_index_or}
use Rattle.std.proofs.Common.{◌∙◌, ap, arith, subst, sym}
use Rattle.std.proofs.lemmas.Option.{get_or_from_slice_get}
use Rattle.flow_net.specs.declared.net.NetArc.{NetArc}
use Rattle.flow_net.proofs.Numbers.{item_at-all}
use Rattle.fixpoint.specs.Coming.{Comes}
use Rattle.fixpoint.specs.Steps.{Holds}
use Rattle.fixpoint.proofs.Endings.{first_held}
use Rattle.fixpoint.proofs.solving.fill.Goals as goal

pub run-requires-clause-going : goal.run-requires-clause-going
run-requires-clause-going g c =
    let t = c.args.transfer.now in
    let s = g.T.Transfer.shape t in
    let arcs = c.args.net.now.arcs in
    let arc = c.requires.net.first.0 in
    let at = c.requires.net.first.1 in
    let to = ap (λ (a : NetArc). a.to)
    (ap (λ (xs : List NetArc). slice_index_or xs 0 (record { from = 0; to = 0 })) c.as_slice-arcs.ensures ∙
    get_or_from_slice_get arcs 0 arc (record { from = 0; to = 0 }) at) in
    let comes = subst (λ (n : ℕ). Comes g.D.Lattice.leq g.D.Widen.widened n c.args.start c.args.values.now c.args.waiting.now
    c.come_to.new.values c.come_to.new.waiting) to c.in_ok-come_to.ensures in
    let held = first_held (λ x. g.D.Lattice.has x s) g.D.Lattice.leq g.D.Lattice.joined g.D.Widen.widened g.D.Height.rank
    g.D.Height.height (g.T.Transfer.stepped t) (g.T.Transfer.moved t) arcs (length c.args.net.now.places + 1) c.args.start
    (g.met.D.Lattice.lattice.on s) (g.met.D.Height.ranked.on s) (g.met.D.Widen.widening.on s) c.args.values.now
    c.args.waiting.now c.come_to.new.values c.come_to.new.waiting arc c.requires.slots c.requires.sized c.requires.blank
    c.requires.unmarked at c.requires.net.first.3
    (omega (arith, item_at-all (λ (a : NetArc). a.to ≤ length c.args.net.now.places) arcs 1 arc c.requires.net.ends at))
    c.requires.shaped comes in (
      c.args.start,
      c.requires.shaped,
      subst (λ (those : List NetArc). Holds (λ x. g.D.Lattice.has x s) g.D.Lattice.leq g.D.Widen.widened (g.T.Transfer.stepped t)
          (g.T.Transfer.moved t) those (length c.come_to.new.values) c.args.start c.come_to.new.values c.come_to.new.waiting)
          (sym c.as_slice-arcs.ensures)
          (subst (λ (n : ℕ). Holds (λ x. g.D.Lattice.has x s) g.D.Lattice.leq g.D.Widen.widened (g.T.Transfer.stepped t)
          (g.T.Transfer.moved t) arcs n c.args.start c.come_to.new.values c.come_to.new.waiting)
          (sym held.size) held),
    )

pub returns-clause-holds : goal.returns-clause-holds
returns-clause-holds g c =
    let t = c.args.transfer.now in
    let s = g.T.Transfer.shape t in
    let arcs = c.args.net.now.arcs in
    let arc = c.requires.net.first.0 in
    let at = c.requires.net.first.1 in
    let to = ap (λ (a : NetArc). a.to)
    (ap (λ (xs : List NetArc). slice_index_or xs 0 (record { from = 0; to = 0 })) c.as_slice-arcs.ensures ∙
    get_or_from_slice_get arcs 0 arc (record { from = 0; to = 0 }) at) in
    let comes = subst (λ (n : ℕ). Comes g.D.Lattice.leq g.D.Widen.widened n c.args.start c.args.values.now c.args.waiting.now
    c.come_to.new.values c.come_to.new.waiting) to c.in_ok-come_to.ensures in
    let held = first_held (λ x. g.D.Lattice.has x s) g.D.Lattice.leq g.D.Lattice.joined g.D.Widen.widened g.D.Height.rank
    g.D.Height.height (g.T.Transfer.stepped t) (g.T.Transfer.moved t) arcs (length c.args.net.now.places + 1) c.args.start
    (g.met.D.Lattice.lattice.on s) (g.met.D.Height.ranked.on s) (g.met.D.Widen.widening.on s) c.args.values.now
    c.args.waiting.now c.come_to.new.values c.come_to.new.waiting arc c.requires.slots c.requires.sized c.requires.blank
    c.requires.unmarked at c.requires.net.first.3
    (omega (arith, item_at-all (λ (a : NetArc). a.to ≤ length c.args.net.now.places) arcs 1 arc c.requires.net.ends at))
    c.requires.shaped comes in
    subst (λ (those : List NetArc). Holds (λ x. g.D.Lattice.has x s) g.D.Lattice.leq g.D.Widen.widened (g.T.Transfer.stepped t)
    (g.T.Transfer.moved t) those (length c.args.net.now.places + 1) c.args.start c.run.new.values c.run.new.waiting)
    c.as_slice-arcs.ensures
    (subst (λ (n : ℕ). Holds (λ x. g.D.Lattice.has x s) g.D.Lattice.leq g.D.Widen.widened (g.T.Transfer.stepped t)
    (g.T.Transfer.moved t) c.as_slice-arcs.result.now n c.args.start c.run.new.values c.run.new.waiting) held.size
    (c.in_ok-run.ensures.kept c.args.start c.requires.shaped
    (subst (λ (those : List NetArc). Holds (λ x. g.D.Lattice.has x s) g.D.Lattice.leq g.D.Widen.widened
    (g.T.Transfer.stepped t) (g.T.Transfer.moved t) those (length c.come_to.new.values) c.args.start
    c.come_to.new.values c.come_to.new.waiting) (sym c.as_slice-arcs.ensures)
    (subst (λ (n : ℕ). Holds (λ x. g.D.Lattice.has x s) g.D.Lattice.leq g.D.Widen.widened (g.T.Transfer.stepped t)
    (g.T.Transfer.moved t) arcs n c.args.start c.come_to.new.values c.come_to.new.waiting)
    (sym held.size) held))))
