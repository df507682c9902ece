-- A set with the other one under it stays, and one without grows.
use Rattle.std.specs.Prelude.{◌≡◌, not}
use Rattle.std.proofs.Common.{◌∙◌, ap, rules, sym}
use Rattle.domain_laws.specs.Consequences.{absorbs, grows}
use Rattle.domain_laws.specs.SetLaws.{capped_lattice}
use Rattle.domain_laws.specs.Sets.{Limited, capped_joined, capped_leq}
use Rattle.domain_laws.proofs.capped.CappedLattice.join.Goals as goal

pub returns-then-leq-clause-value : goal.returns-then-leq-clause-value
returns-then-leq-clause-value c =
    sym (absorbs (capped_lattice.on c.requires.0) c.args.self.now c.args.other.now c.requires.1 c.requires.2
    (sym c.leq.ensures ∙ c.if-leq.true))

pub returns-then-leq-clause-grew : goal.returns-then-leq-clause-grew
returns-then-leq-clause-grew c = ap not (sym ((capped_lattice.on c.requires.0).same c.args.self.now c.requires.1))

pub returns-in_ok-add_all-in-Some-clause-grew : goal.returns-in_ok-add_all-in-Some-clause-grew
returns-in_ok-add_all-in-Some-clause-grew c =
    let e : c.add_all.new.set ≡ capped_joined c.args.self.now c.args.other.now = search rules in
    ap not (sym (ap (λ (z : Limited). capped_leq z c.args.self.now) e ∙
    grows (capped_lattice.on c.requires.0) c.args.self.now c.args.other.now c.requires.1 c.requires.2
    (sym c.leq.ensures ∙ c.if-leq.false)))
