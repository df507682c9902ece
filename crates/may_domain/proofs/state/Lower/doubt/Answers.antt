-- The state after a doubtful touch is one of its set.
use Rattle.std.proofs.Common.{◌≡◌, ℕ, rules, subst, sym}
use Rattle.age_model.specs.Candidates.{blocks_of}
use Rattle.may_domain.specs.Changes.{all_changed}
use Rattle.may_domain.specs.States.{IsLower, Lowers}
use Rattle.may_domain.specs.Touches.{doubted_entry, doubted_shared}
use Rattle.may_domain.proofs.Doubted.{several-is}
use Rattle.may_domain.proofs.state.Lower.doubt.Goals as goal

pub invariant_of-self : goal.invariant_of-self
invariant_of-self c =
    let is : IsLower c.args.self.now.ways c.args.self.now =
    subst (λ (s : Lowers). IsLower s.ways s) c.self.view_is c.self.invariant in
    let e : record { ways = c.self.inside.ways; shared = c.shared_after-self-inside.result; ages = c.change_all.new.ages.items } ≡
    record {
      ways = c.args.self.now.ways;
      shared = doubted_shared (blocks_of c.args.candidates.now) c.args.self.now;
      ages = all_changed (doubted_entry (blocks_of c.args.candidates.now)) c.args.self.now.ages;
    } = search rules in
    subst (λ (s : Lowers). IsLower s.ways s) (sym e)
    (several-is (blocks_of c.args.candidates.now) c.args.self.now c.args.self.now.ways is)

pub returns-clause-lower : goal.returns-clause-lower
returns-clause-lower c =
    let is : IsLower c.args.self.now.ways c.args.self.now =
    subst (λ (s : Lowers). IsLower s.ways s) c.self.view_is c.self.invariant in
    let e : record { ways = c.self.inside.ways; shared = c.shared_after-self-inside.result; ages = c.change_all.new.ages.items } ≡
    record {
      ways = c.args.self.now.ways;
      shared = doubted_shared (blocks_of c.args.candidates.now) c.args.self.now;
      ages = all_changed (doubted_entry (blocks_of c.args.candidates.now)) c.args.self.now.ages;
    } = search rules in
    subst (λ (s : Lowers). IsLower c.args.self.now.ways s) (sym e)
    (several-is (blocks_of c.args.candidates.now) c.args.self.now c.args.self.now.ways is)
