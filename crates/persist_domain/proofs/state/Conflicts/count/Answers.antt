-- A block with fewer conflicts than the ways stays.
use Rattle.std.proofs.Common.{◌≡◌, ℕ, List, Option, Some, None, ap, rules, subst, sym, ◌∙◌, length, ◌<◌}
use Rattle.persist_domain.specs.States.{count_in}
use Rattle.persist_domain.proofs.Touching.{stays-in}
use Rattle.persist_domain.proofs.state.Conflicts.count.Goals as goal

pub returns-in-Some-clause-kept : goal.returns-in-Some-clause-kept
returns-in-Some-clause-kept c =
    let items : c.args.self.now.others.items ≡ Some c.in-Some.items.now = search rules in
    λ few blocks touches covers there.
    stays-in c.args.self.now.others.limit c.args.self.now blocks touches
    (subst (λ (o : Option (List ℕ)). count_in c.args.self.now.others.limit o < c.args.self.now.others.limit) (sym items) few)
    covers there
