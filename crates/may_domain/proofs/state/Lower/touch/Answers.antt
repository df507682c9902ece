-- The state after a touch is one of its set.
use Rattle.std.proofs.Common.{◌≡◌, ℕ, arith, rules, subst, sym}
use Rattle.may_domain.specs.States.{IsLower, Lowers}
use Rattle.may_domain.specs.Touches.{sured}
use Rattle.may_domain.proofs.Touching.{sured-is}
use Rattle.may_domain.proofs.state.Lower.touch.Goals as goal

pub invariant_of-self-2 : goal.invariant_of-self-2
invariant_of-self-2 c =
    let is : IsLower c.args.self.now.ways c.args.self.now =
    subst (λ (s : Lowers). IsLower s.ways s) c.self.view_is c.self.invariant in
    let e : record { ways = c.self.inside.ways; shared = c.grown_up_to-self-inside.result; ages = c.change_all.new.ages.items } ≡
    sured c.args.block c.args.self.now = search rules in
    subst (λ (s : Lowers). IsLower s.ways s) (sym e) (sured-is c.args.self.now.ways c.args.self.now is c.args.block (omega arith))
