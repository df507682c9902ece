-- A state with the other one under it stays, and one without grows.
use Rattle.std.proofs.Common.{◌≡◌, ◌∙◌, ap, rules, subst, sym}
use Rattle.std.specs.Prelude.{not, [], ◌∷◌}
use Rattle.domain_laws.specs.Consequences.{absorbs, grows}
use Rattle.domain_laws.specs.Sets.{Limited, capped_has}
use Rattle.domain_laws.specs.Shapes.{HaveShape}
use Rattle.persist_domain.specs.Laws.{conflicts_lattice}
use Rattle.persist_domain.specs.Order.{joined, leq}
use Rattle.persist_domain.specs.States.{Conflicting, IsConflicting}
use Rattle.persist_domain.proofs.Joining.{common-limit, joined-is}
use Rattle.persist_domain.proofs.lattice.ConflictsLattice.join.Goals as goal

pub returns-then-leq-clause-value : goal.returns-then-leq-clause-value
returns-then-leq-clause-value c =
    sym (absorbs (conflicts_lattice.on c.requires.0) c.args.self.now c.args.other.now c.requires.1 c.requires.2
    (sym c.leq.ensures ∙ c.if-leq.true))

pub returns-then-leq-clause-grew : goal.returns-then-leq-clause-grew
returns-then-leq-clause-grew c = ap not (sym ((conflicts_lattice.on c.requires.0).same c.args.self.now c.requires.1))

pub join-requires : goal.join-requires
join-requires c =
    let others : c.in_ok-others.others ≡ c.args.self.now.others =
    c.in_ok-others.ensures ∙ ap (λ (s : Conflicting). s.others) c.self.view_is in
    subst (λ (x : Limited). HaveShape capped_has x c.other.inside.others) (sym others)
    (subst (λ (y : Limited). HaveShape capped_has c.args.self.now.others y)
    (sym (ap (λ (s : Conflicting). s.others) c.other.view_is))
    (common-limit c.requires.0 c.args.self.now c.args.other.now c.requires.1 c.requires.2))

pub invariant_of-self : goal.invariant_of-self
invariant_of-self c =
    let e : record { block = c.self.inside.block; others = c.join.new.self } ≡ joined c.args.self.now c.args.other.now =
    search rules in
    subst (IsConflicting c.self.inside.ways c.self.inside.block) (sym e)
    (joined-is c.requires.0 c.self.inside.ways c.self.inside.block c.args.self.now c.args.other.now c.requires.1
    c.requires.2 (subst (IsConflicting c.self.inside.ways c.self.inside.block) c.self.view_is c.self.invariant))

pub returns-clause-grew : goal.returns-clause-grew
returns-clause-grew c =
    let e : record { block = c.self.inside.block; others = c.join.new.self } ≡ joined c.args.self.now c.args.other.now =
    search rules in
    ap not (sym (ap (λ (z : Conflicting). leq z c.args.self.now) e ∙
    grows (conflicts_lattice.on c.requires.0) c.args.self.now c.args.other.now c.requires.1 c.requires.2
    (sym c.leq.ensures ∙ c.if-leq.false)))
