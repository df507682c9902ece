-- The ages after a sure touch are those of the rule, which covers what a touch does and rises.
use Rattle.std.proofs.Common.{◌≡◌, ℕ, ◌∙◌, ap, arith, refl, subst, sym}
use Rattle.std.specs.Prelude.{true}
use Rattle.age_model.specs.Ages.{AreLowerAges}
use Rattle.lru_concrete.specs.Sets.{touched}
use Rattle.may_domain.specs.Order.{leq}
use Rattle.may_domain.specs.States.{IsLower, IsNamed, Lowers, age_of, names_in}
use Rattle.may_domain.specs.Touches.{sured}
use Rattle.may_domain.proofs.Touching.{sured-ages, sured-covers, sured-named, sured-rises}
use Rattle.may_domain.proofs.state.Lower.sure.Goals as goal

pub returns-clause-ages : goal.returns-clause-ages
returns-clause-ages c =
    let is : IsLower c.args.self.now.ways c.args.self.now =
    subst (λ (s : Lowers). IsLower s.ways s) c.self.view_is c.self.invariant in
    λ other. ap (λ (s : Lowers). age_of s other) c.in_ok-touch.ensures.value ∙
    sured-ages c.args.self.now.ways c.args.self.now is c.args.block other

pub returns-clause-covers : goal.returns-clause-covers
returns-clause-covers c =
    let is : IsLower c.args.self.now.ways c.args.self.now =
    subst (λ (s : Lowers). IsLower s.ways s) c.self.view_is c.self.invariant in
    λ blocks fits covers.
    subst (λ (s : Lowers). AreLowerAges c.args.self.now.ways (age_of s) (touched c.args.self.now.ways blocks c.args.block))
    (sym c.in_ok-touch.ensures.value)
    (sured-covers c.args.self.now.ways c.args.self.now is c.args.block blocks fits covers)

pub returns-clause-shape : goal.returns-clause-shape
returns-clause-shape c =
    let is : IsLower c.args.self.now.ways c.args.self.now =
    subst (λ (s : Lowers). IsLower s.ways s) c.self.view_is c.self.invariant in
    λ there.
    subst (λ (s : Lowers). IsNamed c.args.self.now.ways (names_in c.args.self.now.ages) s) (sym c.in_ok-touch.ensures.value)
    (sured-named c.args.self.now.ways c.args.block c.args.self.now is (omega arith) there)

pub returns-clause-rises : goal.returns-clause-rises
returns-clause-rises c =
    let is : IsLower c.args.self.now.ways c.args.self.now =
    subst (λ (s : Lowers). IsLower s.ways s) c.self.view_is c.self.invariant in
    λ more kind under.
    subst (λ (s : Lowers). leq s (sured c.args.block more) ≡ true) (sym c.in_ok-touch.ensures.value)
    (sured-rises c.args.self.now.ways c.args.block (names_in c.args.self.now.ages) c.args.self.now more (omega arith)
    (record { lower = is; names = refl }) kind under)
