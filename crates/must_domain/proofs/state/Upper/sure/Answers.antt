-- The ages after a sure touch are those of the rule, which covers what a touch does and rises.
use Rattle.std.proofs.Common.{◌≡◌, ℕ, ◌∙◌, ap, rules, subst, sym, arith}
use Rattle.std.specs.Prelude.{true}
use Rattle.age_model.specs.Ages.{AreUpperAges, sure_upper}
use Rattle.age_model.proofs.Ages.{sure_upper-covers}
use Rattle.lru_concrete.specs.Sets.{touched}
use Rattle.must_domain.specs.Order.{leq}
use Rattle.must_domain.specs.States.{IsUpper, Uppers, age_of}
use Rattle.must_domain.specs.Touches.{sured}
use Rattle.must_domain.proofs.Touching.{covers-by, sured-ages, sured-is, sured-rises}
use Rattle.must_domain.proofs.state.Upper.sure.Goals as goal

pub invariant_of-self-2 : goal.invariant_of-self-2
invariant_of-self-2 c =
    let is : IsUpper c.args.self.now.ways c.args.self.now =
    subst (λ (s : Uppers). IsUpper s.ways s) c.self.view_is c.self.invariant in
    let e : record { ways = c.self.inside.ways; ages = c.change_all.new.ages.items } ≡ sured c.args.block c.args.self.now =
    search rules in
    subst (λ (s : Uppers). IsUpper s.ways s) (sym e)
    (sured-is c.args.self.now.ways c.args.self.now is c.args.block (omega arith))

pub returns-clause-ages : goal.returns-clause-ages
returns-clause-ages c =
    let is : IsUpper c.args.self.now.ways c.args.self.now =
    subst (λ (s : Uppers). IsUpper s.ways s) c.self.view_is c.self.invariant in
    let e : record { ways = c.self.inside.ways; ages = c.change_all.new.ages.items } ≡ sured c.args.block c.args.self.now =
    search rules in
    λ other. ap (λ (s : Uppers). age_of s other) e ∙
    sured-ages c.args.self.now.ways c.args.self.now is c.args.block other

pub returns-clause-covers : goal.returns-clause-covers
returns-clause-covers c =
    let is : IsUpper c.args.self.now.ways c.args.self.now =
    subst (λ (s : Uppers). IsUpper s.ways s) c.self.view_is c.self.invariant in
    let e : record { ways = c.self.inside.ways; ages = c.change_all.new.ages.items } ≡ sured c.args.block c.args.self.now =
    search rules in
    λ blocks fits covers.
    subst (λ (s : Uppers). AreUpperAges c.args.self.now.ways (age_of s) (touched c.args.self.now.ways blocks c.args.block))
    (sym e)
    (covers-by c.args.self.now.ways (sure_upper c.args.block (age_of c.args.self.now))
    (age_of (sured c.args.block c.args.self.now)) (touched c.args.self.now.ways blocks c.args.block)
    (sured-ages c.args.self.now.ways c.args.self.now is c.args.block)
    (sure_upper-covers c.args.self.now.ways (age_of c.args.self.now) blocks c.args.block is.some fits covers))

pub returns-clause-shape : goal.returns-clause-shape
returns-clause-shape c =
    let is : IsUpper c.args.self.now.ways c.args.self.now =
    subst (λ (s : Uppers). IsUpper s.ways s) c.self.view_is c.self.invariant in
    let e : record { ways = c.self.inside.ways; ages = c.change_all.new.ages.items } ≡ sured c.args.block c.args.self.now =
    search rules in
    subst (λ (s : Uppers). IsUpper c.args.self.now.ways s) (sym e)
    (sured-is c.args.self.now.ways c.args.self.now is c.args.block (omega arith))

pub returns-clause-rises : goal.returns-clause-rises
returns-clause-rises c =
    let is : IsUpper c.args.self.now.ways c.args.self.now =
    subst (λ (s : Uppers). IsUpper s.ways s) c.self.view_is c.self.invariant in
    let e : record { ways = c.self.inside.ways; ages = c.change_all.new.ages.items } ≡ sured c.args.block c.args.self.now =
    search rules in
    λ more kind under.
    subst (λ (s : Uppers). leq s (sured c.args.block more) ≡ true) (sym e)
    (sured-rises c.args.self.now.ways c.args.self.now more c.args.block (omega arith) is kind under)
