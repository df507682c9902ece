-- A block whose bound is the ways is absent.
use Rattle.std.proofs.Common.{◌≡◌, ℕ, ◌∙◌, rules, sym}
use Rattle.may_domain.specs.States.{age_of}
use Rattle.may_domain.proofs.Touching.{absent}
use Rattle.may_domain.proofs.state.Lower.age.Goals as goal

pub returns-in-Some-clause-absent : goal.returns-in-Some-clause-absent
returns-in-Some-clause-absent c =
    let value : c.in-Some.age.now ≡ age_of c.args.self.now c.args.block = search rules in
    λ full blocks fits covers. absent c.args.self.now.ways c.args.self.now c.args.block blocks fits covers (sym value ∙ full)

pub returns-in-None-clause-absent : goal.returns-in-None-clause-absent
returns-in-None-clause-absent c =
    let value : c.self.inside.shared ≡ age_of c.args.self.now c.args.block = search rules in
    λ full blocks fits covers. absent c.args.self.now.ways c.args.self.now c.args.block blocks fits covers (sym value ∙ full)
