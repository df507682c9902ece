-- With no place waiting the table is closed, full and under all ceilings.
use Rattle.std.specs.Prelude.{◌≡◌, ◌+◌, ◌<◌, ◌≤◌, true, List, drop, length, Option}
use Rattle.std.proofs.Common.{◌∙◌, ap, arith, subst, sym}
use Rattle.std.proofs.lemmas.List.{take_at}
use Rattle.flow_net.specs.declared.net.NetArc.{NetArc}
use Rattle.flow_net.proofs.Numbers.{item_at-all}
use Rattle.domain_laws.specs.Options.{option_ok}
use Rattle.fixpoint.specs.Solved.{AreCeilings, IsClosed, Starts}
use Rattle.fixpoint.specs.Values.{value_of, Passes}
use Rattle.fixpoint.proofs.Endings.{ends_closed, ends_full, ends_started, ends_under}
use Rattle.fixpoint.proofs.Running.{number_of}
use Rattle.fixpoint.proofs.solving.solve.Goals as goal

pub of-requires : goal.of-requires
of-requires g c =
    let t = c.args.transfer.now in
    let s = g.T.Transfer.shape t in
    let new = c.fill.new.values in
    let size = c.in_ok-fill.ensures.holds.size in
    let len : length new ≡ c.in_ok-values.values.len =
    c.in_ok-fill.ensures.size ∙ c.deref_mut.ensures.len in
    let whole = take_at new (drop (length new) c.in_ok-values.values.items) c.in_ok-values.values.len len in
    λ place some inside empty.
    let known : place < length new = omega (arith, inside, ap (λ (vs : List (Option g.row.D.Denot)). length vs) whole) in
    let path = c.requires.net.reached place (record { from_one = omega (arith, some); within = omega (arith, known, size) }) in
    ends_full (λ x. g.D.Lattice.has x s) g.D.Lattice.leq g.D.Widen.widened (g.T.Transfer.stepped t) (g.T.Transfer.moved t)
    c.args.net.now.arcs (length c.args.net.now.places + 1) c.in_ok-copy.field-0 new c.fill.new.waiting
    c.in_ok-fill.ensures.holds c.in_ok-fill.ensures.none place some path.0 path.1
    (sym (ap (λ (vs : List (Option g.row.D.Denot)). value_of vs place) whole) ∙ empty)

pub returns-clause-shape : goal.returns-clause-shape
returns-clause-shape g c =
    let t = c.args.transfer.now in
    let s = g.T.Transfer.shape t in
    let new = c.fill.new.values in
    let size = c.in_ok-fill.ensures.holds.size in
    let len : length new ≡ c.in_ok-values.values.len =
    c.in_ok-fill.ensures.size ∙ c.deref_mut.ensures.len in
    let whole = take_at new (drop (length new) c.in_ok-values.values.items) c.in_ok-values.values.len len in
    let told : c.of.result ≡ c.fill.new.values = c.of.ensures ∙ whole in
    λ place x there.
    subst (option_ok (λ (y : g.row.D.Denot). g.D.Lattice.has y s))
    (sym (ap (λ (vs : List (Option g.row.D.Denot)). value_of vs place) told) ∙ there)
    (c.in_ok-fill.ensures.holds.shaped place)

pub returns-clause-starts : goal.returns-clause-starts
returns-clause-starts g c =
    let t = c.args.transfer.now in
    let s = g.T.Transfer.shape t in
    let new = c.fill.new.values in
    let size = c.in_ok-fill.ensures.holds.size in
    let len : length new ≡ c.in_ok-values.values.len =
    c.in_ok-fill.ensures.size ∙ c.deref_mut.ensures.len in
    let whole = take_at new (drop (length new) c.in_ok-values.values.items) c.in_ok-values.values.len len in
    let told : c.of.result ≡ c.fill.new.values = c.of.ensures ∙ whole in
    subst (λ (vs : List (Option g.row.D.Denot)). Starts g.D.Lattice.leq c.args.net.now.arcs c.args.start.now vs) (sym told)
    (subst (λ (y : g.row.D.Denot). Starts g.D.Lattice.leq c.args.net.now.arcs y new) c.in_ok-copy.ensures
    (ends_started (λ x. g.D.Lattice.has x s) g.D.Lattice.leq g.D.Widen.widened (g.T.Transfer.stepped t) (g.T.Transfer.moved t)
    c.args.net.now.arcs (length c.args.net.now.places + 1) c.in_ok-copy.field-0 new c.fill.new.waiting
    c.in_ok-fill.ensures.holds c.in_ok-fill.ensures.none))

pub returns-clause-closed : goal.returns-clause-closed
returns-clause-closed g c =
    let t = c.args.transfer.now in
    let s = g.T.Transfer.shape t in
    let new = c.fill.new.values in
    let size = c.in_ok-fill.ensures.holds.size in
    let len : length new ≡ c.in_ok-values.values.len =
    c.in_ok-fill.ensures.size ∙ c.deref_mut.ensures.len in
    let whole = take_at new (drop (length new) c.in_ok-values.values.items) c.in_ok-values.values.len len in
    let told : c.of.result ≡ c.fill.new.values = c.of.ensures ∙ whole in
    subst (λ (vs : List (Option g.row.D.Denot)).
    IsClosed g.D.Lattice.leq (g.T.Transfer.stepped t) (g.T.Transfer.moved t) c.args.net.now.arcs vs) (sym told)
    (ends_closed (λ x. g.D.Lattice.has x s) g.D.Lattice.leq g.D.Widen.widened (g.T.Transfer.stepped t) (g.T.Transfer.moved t)
    c.args.net.now.arcs (length c.args.net.now.places + 1) c.in_ok-copy.field-0 new c.fill.new.waiting
    c.in_ok-fill.ensures.holds c.in_ok-fill.ensures.none)

pub returns-clause-tests : goal.returns-clause-tests
returns-clause-tests g c =
    let t = c.args.transfer.now in
    let s = g.T.Transfer.shape t in
    let new = c.fill.new.values in
    let size = c.in_ok-fill.ensures.holds.size in
    let len : length new ≡ c.in_ok-values.values.len =
    c.in_ok-fill.ensures.size ∙ c.deref_mut.ensures.len in
    let whole = take_at new (drop (length new) c.in_ok-values.values.items) c.in_ok-values.values.len len in
    let told : c.of.result ≡ c.fill.new.values = c.of.ensures ∙ whole in
    λ test kept first.
    subst (λ (vs : List (Option g.row.D.Denot)). Passes test vs) (sym told)
    (c.in_ok-fill.ensures.holds.tests test kept
    (λ arc at. subst (λ (y : g.row.D.Denot). test arc.to y ≡ true) (sym c.in_ok-copy.ensures) (first arc at)))

pub returns-clause-ceilings : goal.returns-clause-ceilings
returns-clause-ceilings g c =
    let t = c.args.transfer.now in
    let s = g.T.Transfer.shape t in
    let new = c.fill.new.values in
    let size = c.in_ok-fill.ensures.holds.size in
    let len : length new ≡ c.in_ok-values.values.len =
    c.in_ok-fill.ensures.size ∙ c.deref_mut.ensures.len in
    let whole = take_at new (drop (length new) c.in_ok-values.values.items) c.in_ok-values.values.len len in
    let told : c.of.result ≡ c.fill.new.values = c.of.ensures ∙ whole in
    let steps = g.met.T.Transfer.steps t in
    let moves = g.met.T.Transfer.moves t in
    let arcs = c.args.net.now.arcs in
    λ ceiling are place x there.
    ends_under (λ x. g.D.Lattice.has x s) g.D.Lattice.leq g.D.Widen.widened (g.T.Transfer.stepped t) (g.T.Transfer.moved t)
    c.args.net.now.arcs (length c.args.net.now.places + 1) c.in_ok-copy.field-0 new c.fill.new.waiting
    c.in_ok-fill.ensures.holds c.in_ok-fill.ensures.none g.D.Lattice.joined (g.met.D.Lattice.lattice.on s)
    (λ number arc y z at from p q under.
    let served = c.requires.served.arcs number (number_of arcs number arc at) in
    let here = c.requires.served.places arc.from (record {
      from_one = omega (arith, from);
      within = item_at-all (λ (a : NetArc). a.from ≤ length c.args.net.now.places) arcs number arc c.requires.net.starts at;
    }) in
    moves.rises number (g.T.Transfer.stepped t arc.from y) (g.T.Transfer.stepped t arc.from z) served
    (steps.kept arc.from y here p) (steps.kept arc.from z here q) (steps.rises arc.from y z here p q under))
    (λ number arc y at from p.
    moves.kept number (g.T.Transfer.stepped t arc.from y) (c.requires.served.arcs number (number_of arcs number arc at))
    (steps.kept arc.from y (c.requires.served.places arc.from (record {
      from_one = omega (arith, from);
      within = item_at-all (λ (a : NetArc). a.from ≤ length c.args.net.now.places) arcs number arc c.requires.net.starts at;
    })) p))
    ceiling
    (subst (λ (y : g.row.D.Denot). AreCeilings (λ x. g.D.Lattice.has x s) g.D.Lattice.leq g.D.Widen.widened
    (g.T.Transfer.stepped t) (g.T.Transfer.moved t) arcs y ceiling) (sym c.in_ok-copy.ensures) are)
    place x (sym (ap (λ (vs : List (Option g.row.D.Denot)). value_of vs place) told) ∙ there)
