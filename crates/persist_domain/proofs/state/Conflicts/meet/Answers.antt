-- The state stays one of its block, whether there was memory or not.
use Rattle.std.proofs.Common.{◌∙◌, refl, rules, subst}
use Rattle.domain_laws.specs.Sets.{AreFew}
use Rattle.persist_domain.proofs.state.Conflicts.meet.Goals as goal

pub invariant_of-self : goal.invariant_of-self
invariant_of-self c =
    let few : AreFew c.add.new.self.limit c.add.new.self.items = c.add.ensures.few in
    let limit = c.add.ensures.limit ∙ c.self.invariant.few.same in
    record {
      same = refl;
      low = c.self.invariant.low;
      some = c.self.invariant.some;
      few = record {
        same = limit;
        low = c.self.invariant.few.low;
        few = subst (λ n. AreFew n c.add.new.self.items) limit few;
      };
    }

pub invariant_of-self-2 : goal.invariant_of-self-2
invariant_of-self-2 c =
    let few : AreFew c.add.new.self.limit c.add.new.self.items = c.add.ensures.few in
    let limit = c.add.ensures.limit ∙ c.self.invariant.few.same in
    record {
      same = refl;
      low = c.self.invariant.low;
      some = c.self.invariant.some;
      few = record {
        same = limit;
        low = c.self.invariant.few.low;
        few = subst (λ n. AreFew n c.add.new.self.items) limit few;
      };
    }
