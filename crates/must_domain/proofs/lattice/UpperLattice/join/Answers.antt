-- A state with the other one under it stays, and one without grows.
use Rattle.std.proofs.Common.{◌≡◌, ℕ, List, ◌∙◌, ap, ap₂, rules, subst, sym}
use Rattle.std.specs.Prelude.{max, not}
use Rattle.domain_laws.specs.Consequences.{absorbs, grows}
use Rattle.domain_laws.specs.Maps.{always, map_joined}
use Rattle.must_domain.proofs.Changing.{joined-changed}
use Rattle.must_domain.specs.Laws.{upper_lattice}
use Rattle.must_domain.specs.Order.{joined, leq, upper_has}
use Rattle.must_domain.specs.States.{IsUpper, Uppers}
use Rattle.must_domain.proofs.Joining.{joined-is}
use Rattle.must_domain.proofs.lattice.UpperLattice.join.Goals as goal

pub returns-then-leq-clause-value : goal.returns-then-leq-clause-value
returns-then-leq-clause-value c =
    sym (absorbs (upper_lattice.on c.requires.0) c.args.self.now c.args.other.now c.requires.1 c.requires.2
    (sym c.leq.ensures ∙ c.if-leq.true))

pub returns-then-leq-clause-grew : goal.returns-then-leq-clause-grew
returns-then-leq-clause-grew c = ap not (sym ((upper_lattice.on c.requires.0).same c.args.self.now c.requires.1))

pub returns-clause-value : goal.returns-clause-value
returns-clause-value c =
    let items : c.change_all.new.ages.items ≡ (joined c.args.self.now c.args.other.now).ages =
    c.change_all.ensures ∙ joined-changed c.self.inside.ages.items c.deref.result.now ∙
    ap₂ (map_joined (always max)) (ap (λ (s : Uppers). s.ages) c.self.view_is)
    (c.deref.ensures.value ∙ ap (λ (s : Uppers). s.ages) c.other.view_is) in
    ap (λ (ages : List (ℕ × ℕ)). record { ways = c.self.inside.ways; ages = ages }) items ∙ search rules

pub invariant_of-self : goal.invariant_of-self
invariant_of-self c =
    let e : record { ways = c.self.inside.ways; ages = c.change_all.new.ages.items } ≡ joined c.args.self.now c.args.other.now =
    returns-clause-value c in
    subst (λ (s : Uppers). IsUpper s.ways s) (sym e)
    (joined-is c.requires.0 c.args.self.now c.args.other.now c.requires.1 c.requires.2)

pub returns-clause-grew : goal.returns-clause-grew
returns-clause-grew c =
    let e : record { ways = c.self.inside.ways; ages = c.change_all.new.ages.items } ≡ joined c.args.self.now c.args.other.now =
    returns-clause-value c in
    ap not (sym (ap (λ (z : Uppers). leq z c.args.self.now) e ∙
    grows (upper_lattice.on c.requires.0) c.args.self.now c.args.other.now c.requires.1 c.requires.2
    (sym c.leq.ensures ∙ c.if-leq.false)))
