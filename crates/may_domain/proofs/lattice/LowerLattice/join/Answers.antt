-- A state with the other one under it stays, and one without grows.
use Rattle.std.proofs.Common.{◌≡◌, ℕ, List, ◌∙◌, ap, ap₂, rules, subst, sym}
use Rattle.std.specs.Prelude.{min, not}
use Rattle.domain_laws.specs.Consequences.{absorbs, grows}
use Rattle.may_domain.specs.Changes.{all_changed, joined_entry}
use Rattle.may_domain.specs.Laws.{lower_lattice}
use Rattle.may_domain.specs.Order.{joined, leq}
use Rattle.may_domain.specs.States.{IsLower, Lowers}
use Rattle.may_domain.proofs.Changing.{joined-changed}
use Rattle.may_domain.proofs.Joining.{common-names, joined-is}
use Rattle.may_domain.proofs.lattice.LowerLattice.join.Goals as goal

pub returns-then-leq-clause-value : goal.returns-then-leq-clause-value
returns-then-leq-clause-value c =
    sym (absorbs (lower_lattice.on c.requires.0) c.args.self.now c.args.other.now c.requires.1 c.requires.2
    (sym c.leq.ensures ∙ c.if-leq.true))

pub returns-then-leq-clause-grew : goal.returns-then-leq-clause-grew
returns-then-leq-clause-grew c = ap not (sym ((lower_lattice.on c.requires.0).same c.args.self.now c.requires.1))

pub returns-clause-value : goal.returns-clause-value
returns-clause-value c =
    let items : c.change_all.new.ages.items ≡ (joined c.args.self.now c.args.other.now).ages =
    c.change_all.ensures ∙
    ap₂ (λ (others entries : List (ℕ × ℕ)). all_changed (joined_entry others) entries)
    (c.deref.ensures.value ∙ ap (λ (s : Lowers). s.ages) c.other.view_is)
    (ap (λ (s : Lowers). s.ages) c.self.view_is) ∙
    sym (joined-changed c.args.self.now.ages c.args.other.now.ages
    (common-names c.requires.0 c.args.self.now c.args.other.now c.requires.1 c.requires.2)) in
    let shared : c.min-self-inside.result ≡ min c.args.self.now.shared c.args.other.now.shared = search rules in
    ap₂ (λ (n : ℕ) (ages : List (ℕ × ℕ)). record { ways = c.self.inside.ways; shared = n; ages = ages }) shared items ∙
    ap (λ (n : ℕ). record {
      ways = n;
      shared = min c.args.self.now.shared c.args.other.now.shared;
      ages = (joined c.args.self.now c.args.other.now).ages;
    }) (ap (λ (s : Lowers). s.ways) c.self.view_is)

pub invariant_of-self : goal.invariant_of-self
invariant_of-self c =
    let e : record { ways = c.self.inside.ways; shared = c.min-self-inside.result; ages = c.change_all.new.ages.items } ≡
    joined c.args.self.now c.args.other.now = returns-clause-value c in
    subst (λ (s : Lowers). IsLower s.ways s) (sym e)
    (joined-is c.requires.0 c.args.self.now c.args.other.now c.requires.1 c.requires.2)

pub returns-clause-grew : goal.returns-clause-grew
returns-clause-grew c =
    let e : record { ways = c.self.inside.ways; shared = c.min-self-inside.result; ages = c.change_all.new.ages.items } ≡
    joined c.args.self.now c.args.other.now = returns-clause-value c in
    ap not (sym (ap (λ (z : Lowers). leq z c.args.self.now) e ∙
    grows (lower_lattice.on c.requires.0) c.args.self.now c.args.other.now c.requires.1 c.requires.2
    (sym c.leq.ensures ∙ c.if-leq.false)))
