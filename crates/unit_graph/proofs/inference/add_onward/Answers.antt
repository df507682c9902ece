use Rattle.std.proofs.Common.{[], ℕ, List, get_or, subst, sym, take, arith}
use Rattle.std.proofs.lemmas.List.{take_all, take_more}
use Rattle.unit_graph.specs.Inference.{Adds, IsOnwardRule}
use Rattle.unit_graph.proofs.RuleLists.{Adds-none, no_onward, onward_more}
use Rattle.unit_graph.proofs.inference.add_onward.Goals as goal

pub loop-later-init : goal.loop-later-init
loop-later-init c = Adds-none (IsOnwardRule c.args.address []) c.args.rules.now.items (no_onward c.args.address)

pub loop-later-preserved : goal.loop-later-preserved
loop-later-preserved c =
    let at = c.loop-later.later-index in
    let one = get_or c.args.onward.now at 0 in
    subst (λ (some : List ℕ). Adds (IsOnwardRule c.args.address some) c.args.rules.now.items c.push.new.self.items)
    (sym (take_more c.args.onward.now at 0 c.loop-later-test.true))
    (onward_more c.args.address (take at c.args.onward.now) one c.args.rules.now.items c.loop-later.rules.items c.push.new.self.items
    c.loop-later.invariant c.in_ok-push.ensures.items)

pub returns : goal.returns
returns c =
    subst (λ (some : List ℕ). Adds (IsOnwardRule c.args.address some) c.args.rules.now.items c.loop-later.rules.items)
    (take_all c.loop-later.later-index c.args.onward.now (omega (arith, c.loop-later-test.false)))
    c.loop-later.invariant
