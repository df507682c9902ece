-- The ages after a doubtful touch are those of the rule, which covers each touch of a candidate, and none, and rises.
use Rattle.std.proofs.Common.{◌≡◌, ℕ, ◌∙◌, ap, rules, subst, sym}
use Rattle.std.specs.Prelude.{true}
use Rattle.age_model.specs.Ages.{AreUpperAges, doubtful_upper}
use Rattle.age_model.specs.Candidates.{blocks_of}
use Rattle.age_model.proofs.Doubts.{doubtful_upper-stays, doubtful_upper-touch}
use Rattle.lru_concrete.specs.Sets.{touched}
use Rattle.must_domain.specs.Order.{leq}
use Rattle.must_domain.specs.States.{IsUpper, Uppers, age_of}
use Rattle.must_domain.specs.Touches.{doubted}
use Rattle.must_domain.proofs.Touching.{covers-by, doubted-ages, doubted-is, doubted-rises}
use Rattle.must_domain.proofs.state.Upper.doubtful.Goals as goal

pub invariant_of-self : goal.invariant_of-self
invariant_of-self c =
    let is : IsUpper c.args.self.now.ways c.args.self.now =
    subst (λ (s : Uppers). IsUpper s.ways s) c.self.view_is c.self.invariant in
    let e : record { ways = c.self.inside.ways; ages = c.change_all.new.ages.items } ≡
    doubted c.args.candidates.now c.args.self.now = search rules in
    subst (λ (s : Uppers). IsUpper s.ways s) (sym e)
    (doubted-is c.args.self.now.ways c.args.self.now is c.args.candidates.now)

pub returns-clause-ages : goal.returns-clause-ages
returns-clause-ages c =
    let is : IsUpper c.args.self.now.ways c.args.self.now =
    subst (λ (s : Uppers). IsUpper s.ways s) c.self.view_is c.self.invariant in
    let e : record { ways = c.self.inside.ways; ages = c.change_all.new.ages.items } ≡
    doubted c.args.candidates.now c.args.self.now = search rules in
    λ other. ap (λ (s : Uppers). age_of s other) e ∙
    doubted-ages c.args.self.now.ways c.args.self.now is c.args.candidates.now other

pub returns-clause-stays : goal.returns-clause-stays
returns-clause-stays c =
    let is : IsUpper c.args.self.now.ways c.args.self.now =
    subst (λ (s : Uppers). IsUpper s.ways s) c.self.view_is c.self.invariant in
    let e : record { ways = c.self.inside.ways; ages = c.change_all.new.ages.items } ≡
    doubted c.args.candidates.now c.args.self.now = search rules in
    λ blocks covers.
    subst (λ (s : Uppers). AreUpperAges c.args.self.now.ways (age_of s) blocks) (sym e)
    (covers-by c.args.self.now.ways (doubtful_upper (blocks_of c.args.candidates.now) (age_of c.args.self.now))
    (age_of (doubted c.args.candidates.now c.args.self.now)) blocks
    (doubted-ages c.args.self.now.ways c.args.self.now is c.args.candidates.now)
    (doubtful_upper-stays c.args.self.now.ways (age_of c.args.self.now) blocks (blocks_of c.args.candidates.now) covers))

pub returns-clause-covers : goal.returns-clause-covers
returns-clause-covers c =
    let is : IsUpper c.args.self.now.ways c.args.self.now =
    subst (λ (s : Uppers). IsUpper s.ways s) c.self.view_is c.self.invariant in
    let e : record { ways = c.self.inside.ways; ages = c.change_all.new.ages.items } ≡
    doubted c.args.candidates.now c.args.self.now = search rules in
    λ blocks block fits there covers.
    subst (λ (s : Uppers). AreUpperAges c.args.self.now.ways (age_of s) (touched c.args.self.now.ways blocks block)) (sym e)
    (covers-by c.args.self.now.ways (doubtful_upper (blocks_of c.args.candidates.now) (age_of c.args.self.now))
    (age_of (doubted c.args.candidates.now c.args.self.now)) (touched c.args.self.now.ways blocks block)
    (doubted-ages c.args.self.now.ways c.args.self.now is c.args.candidates.now)
    (doubtful_upper-touch c.args.self.now.ways (age_of c.args.self.now) blocks (blocks_of c.args.candidates.now) block
    is.some fits there covers))

pub returns-clause-shape : goal.returns-clause-shape
returns-clause-shape c =
    let is : IsUpper c.args.self.now.ways c.args.self.now =
    subst (λ (s : Uppers). IsUpper s.ways s) c.self.view_is c.self.invariant in
    let e : record { ways = c.self.inside.ways; ages = c.change_all.new.ages.items } ≡
    doubted c.args.candidates.now c.args.self.now = search rules in
    subst (λ (s : Uppers). IsUpper c.args.self.now.ways s) (sym e)
    (doubted-is c.args.self.now.ways c.args.self.now is c.args.candidates.now)

pub returns-clause-rises : goal.returns-clause-rises
returns-clause-rises c =
    let is : IsUpper c.args.self.now.ways c.args.self.now =
    subst (λ (s : Uppers). IsUpper s.ways s) c.self.view_is c.self.invariant in
    let e : record { ways = c.self.inside.ways; ages = c.change_all.new.ages.items } ≡
    doubted c.args.candidates.now c.args.self.now = search rules in
    λ more kind under.
    subst (λ (s : Uppers). leq s (doubted c.args.candidates.now more) ≡ true) (sym e)
    (doubted-rises c.args.self.now.ways c.args.self.now more c.args.candidates.now is kind under)
