use Rattle.std.proofs.Common.{List, None, get_or, subst, sym, take}
use Rattle.std.proofs.lemmas.List.{take_more}
use Rattle.unit_graph.specs.Inference.{Infers}
use Rattle.unit_graph.specs.declared.inference.Rule.{Rule}
use Rattle.unit_graph.proofs.Growing.{Infers-more, Infers-none}
use Rattle.unit_graph.proofs.inference.try_rules.Goals as goal

abbrev nothing : Rule
nothing = record { given = 0; other = None; then = 0 }

pub loop-rule-init : goal.loop-rule-init
loop-rule-init c = Infers-none c.args.returning.now.keys c.args.waiting.now.items

pub loop-rule-preserved : goal.loop-rule-preserved
loop-rule-preserved c =
    let at = c.loop-rule.rule-index in
    let one = get_or c.args.rules.now at nothing in
    subst
    (λ (some : List Rule). Infers some c.args.returning.now.keys c.args.waiting.now.items c.try_rule.new.returning.keys c.try_rule.new.waiting.items)
    (sym (take_more c.args.rules.now at nothing c.loop-rule-test.true))
    (Infers-more (take at c.args.rules.now) one c.args.returning.now.keys c.args.waiting.now.items
    c.loop-rule.returning.keys c.loop-rule.waiting.items c.try_rule.new.returning.keys c.try_rule.new.waiting.items
    c.loop-rule.invariant c.in_ok-try_rule.ensures)
