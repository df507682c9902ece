-- The ages after a doubtful touch are those of the rule, which covers each touch of a candidate, and none.
use Rattle.std.proofs.Common.{◌≡◌, ℕ, [], ◌∷◌, ◌∙◌, ap, refl, subst, sym}
use Rattle.age_model.specs.Ages.{AreLowerAges}
use Rattle.age_model.specs.Candidates.{blocks_of}
use Rattle.lru_concrete.specs.Sets.{is_in, touched}
use Rattle.may_domain.specs.States.{IsLower, IsNamed, Lowers, age_of, names_in}
use Rattle.std.specs.Prelude.{true}
use Rattle.may_domain.specs.Order.{leq}
use Rattle.may_domain.specs.Touches.{doubted}
use Rattle.may_domain.proofs.DoubtedOrder.{doubted-names, doubted-rises}
use Rattle.may_domain.proofs.Doubted.{doubted-ages, doubted-covers, doubted-stays}
use Rattle.may_domain.proofs.state.Lower.doubtful.Goals as goal

pub returns-clause-ages : goal.returns-clause-ages
returns-clause-ages c = λ other. ap (λ (s : Lowers). age_of s other) c.in_ok-doubt.ensures.value ∙
    doubted-ages (blocks_of c.args.candidates.now) c.args.self.now other

pub returns-clause-stays : goal.returns-clause-stays
returns-clause-stays c = λ blocks covers.
    subst (λ (s : Lowers). AreLowerAges c.args.self.now.ways (age_of s) blocks) (sym c.in_ok-doubt.ensures.value)
    (doubted-stays (blocks_of c.args.candidates.now) c.args.self.now c.args.self.now.ways blocks covers)

pub returns-clause-covers : goal.returns-clause-covers
returns-clause-covers c =
    let is : IsLower c.args.self.now.ways c.args.self.now =
    subst (λ (s : Lowers). IsLower s.ways s) c.self.view_is c.self.invariant in
    λ blocks block fits there covers.
    subst (λ (s : Lowers). AreLowerAges c.args.self.now.ways (age_of s) (touched c.args.self.now.ways blocks block))
    (sym c.in_ok-doubt.ensures.value)
    (doubted-covers (blocks_of c.args.candidates.now) c.args.self.now c.args.self.now.ways blocks block is.some fits there covers)

pub returns-clause-shape : goal.returns-clause-shape
returns-clause-shape c =
    let is : IsLower c.args.self.now.ways c.args.self.now =
    subst (λ (s : Lowers). IsLower s.ways s) c.self.view_is c.self.invariant in
    λ single. record {
      lower = c.in_ok-doubt.ensures.lower;
      names = ap (λ (s : Lowers). names_in s.ages) c.in_ok-doubt.ensures.value ∙
          doubted-names (blocks_of c.args.candidates.now) c.args.self.now.ways c.args.self.now is
          (λ block e.
          let first : c.args.candidates.now.first ≡ block = cc in
          subst (λ (b : ℕ). is_in (names_in c.args.self.now.ages) b ≡ true) first
          (single (e ∙ ap (λ (b : ℕ). b ∷ []) (sym first))));
    }

pub returns-clause-rises : goal.returns-clause-rises
returns-clause-rises c =
    let is : IsLower c.args.self.now.ways c.args.self.now =
    subst (λ (s : Lowers). IsLower s.ways s) c.self.view_is c.self.invariant in
    λ more kind under.
    subst (λ (s : Lowers). leq s (doubted c.args.candidates.now more) ≡ true) (sym c.in_ok-doubt.ensures.value)
    (doubted-rises (blocks_of c.args.candidates.now) c.args.self.now.ways (names_in c.args.self.now.ages) c.args.self.now
    more (record { lower = is; names = refl }) kind under)
