-- The walk ends behind the last candidate, or at one without a bound.
use Rattle.std.proofs.Common.{◌≡◌, ap, arith, subst}
use Rattle.must_domain.specs.States.{IsUpper, Uppers, age_of}
use Rattle.must_domain.proofs.Touching.{age-most}
use Rattle.must_domain.proofs.Walking.{walk-full}
use Rattle.must_domain.proofs.state.Upper.oldest.Goals as goal

pub returns : goal.returns
returns c =
    let is : IsUpper c.args.self.now.ways c.args.self.now =
    subst (λ (s : Uppers). IsUpper s.ways s) c.self.view_is c.self.invariant in
    let same : c.self.inside.ways ≡ c.args.self.now.ways = ap (λ (s : Uppers). s.ways) c.self.view_is in
    walk-full (age_of c.args.self.now) c.args.self.now.ways c.args.candidates.now c.loop-oldest.rest c.loop-oldest.oldest
    (age-most c.args.self.now.ways c.args.self.now is) c.loop-oldest.invariant.0 (omega (arith, same))
    c.loop-oldest.invariant.1
