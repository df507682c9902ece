-- A name changes no bound.
use Rattle.std.proofs.Common.{◌≡◌, ℕ, ◌∙◌, ap, arith, rules, subst, sym}
use Rattle.may_domain.specs.States.{IsLower, Lowers, age_of}
use Rattle.may_domain.specs.Touches.{named}
use Rattle.may_domain.proofs.Touching.{named-ages, named-is}
use Rattle.may_domain.proofs.state.Lower.name.Goals as goal

pub invariant_of-self-2 : goal.invariant_of-self-2
invariant_of-self-2 c =
    let is : IsLower c.args.self.now.ways c.args.self.now =
    subst (λ (s : Lowers). IsLower s.ways s) c.self.view_is c.self.invariant in
    let e : record { ways = c.self.inside.ways; shared = c.self.inside.shared; ages = c.put_in.new.entries.items } ≡
    named c.args.block c.args.self.now = search rules in
    subst (λ (s : Lowers). IsLower s.ways s) (sym e) (named-is c.args.self.now.ways c.args.block c.args.self.now (omega arith) is)

pub returns-clause-ages : goal.returns-clause-ages
returns-clause-ages c =
    let e : record { ways = c.self.inside.ways; shared = c.self.inside.shared; ages = c.put_in.new.entries.items } ≡
    named c.args.block c.args.self.now = search rules in
    λ other. ap (λ (s : Lowers). age_of s other) e ∙ named-ages c.args.block c.args.self.now other
