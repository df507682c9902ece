-- The state with a young block is one of its set.
use Rattle.std.proofs.Common.{◌≡◌, ℕ, arith, rules, subst, sym}
use Rattle.may_domain.specs.States.{IsLower, Lowers}
use Rattle.may_domain.specs.Touches.{made_young}
use Rattle.may_domain.proofs.Touching.{put-is}
use Rattle.may_domain.proofs.state.Lower.make_young.Goals as goal

pub invariant_of-self-2 : goal.invariant_of-self-2
invariant_of-self-2 c =
    let is : IsLower c.args.self.now.ways c.args.self.now =
    subst (λ (s : Lowers). IsLower s.ways s) c.self.view_is c.self.invariant in
    let e : record { ways = c.self.inside.ways; shared = c.self.inside.shared; ages = c.put_in.new.entries.items } ≡
    made_young c.args.block c.args.self.now = search rules in
    subst (λ (s : Lowers). IsLower s.ways s) (sym e)
    (put-is c.args.self.now.ways c.args.block 0 c.args.self.now (omega arith) (omega arith) is)

pub returns-clause-lower : goal.returns-clause-lower
returns-clause-lower c =
    let is : IsLower c.args.self.now.ways c.args.self.now =
    subst (λ (s : Lowers). IsLower s.ways s) c.self.view_is c.self.invariant in
    let e : record { ways = c.self.inside.ways; shared = c.self.inside.shared; ages = c.put_in.new.entries.items } ≡
    made_young c.args.block c.args.self.now = search rules in
    subst (λ (s : Lowers). IsLower c.args.self.now.ways s) (sym e)
    (put-is c.args.self.now.ways c.args.block 0 c.args.self.now (omega arith) (omega arith) is)
