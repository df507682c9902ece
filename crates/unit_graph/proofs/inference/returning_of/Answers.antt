use Rattle.std.proofs.Common.{List, arith, subst}
use Rattle.unit_graph.specs.Inference.{IsInferring}
use Rattle.unit_graph.specs.declared.inference.Rule.{Rule}
use Rattle.unit_graph.proofs.Growing.{grows_shrinks}
use Rattle.unit_graph.proofs.Inferring.{IsInferring-start, IsInferring-turn}
use Rattle.code_units.proofs.Ranging.{AreAt}
use Rattle.unit_graph.proofs.Returning.{IsInferring-end}
use Rattle.unit_graph.proofs.Searching.{empty_by, few_seen}
use Rattle.unit_graph.proofs.inference.returning_of.Goals as goal

pub rules_of-requires : goal.rules_of-requires
rules_of-requires c = (c.requires.0, c.requires.2.each)

pub loop-address-init : goal.loop-address-init
loop-address-init c =
    IsInferring-start c.args.rows.now c.in_ok-rules.rules.items c.new-returning.result.keys c.new-waiting.result.items
    c.see_ends.new.returning.keys c.see_ends.new.waiting.items
    c.new-returning.ensures.empty c.new-waiting.ensures.items c.new-returning.ensures.ordered c.in_ok-see_ends.ensures

turned : (c : goal.In_ok-try_rules) →
    IsInferring c.args.rows.now c.in_ok-rules.rules.items c.try_rules.new.returning.keys c.try_rules.new.waiting.items
turned c =
    let rules = c.in_ok-rules.rules.items in
    let found = c.rules_at.result.now in
    let at : AreAt (λ (rule : Rule). rule.given) c.deref.result.now c.in-Some.address found = record {
      within = c.rules_at.ensures.within;
      sound = c.rules_at.ensures.sound;
      whole = c.rules_at.ensures.whole;
    } in
    IsInferring-turn c.args.rows.now rules found c.in-Some.address
    c.loop-address.returning.keys c.loop-address.waiting.items c.pop.new.self.items
    c.try_rules.new.returning.keys c.try_rules.new.waiting.items
    c.in_ok-rules.ensures
    (subst (λ (all : List Rule). AreAt (λ (rule : Rule). rule.given) all c.in-Some.address found) c.deref.ensures.value at)
    c.loop-address.invariant c.in-Some.ensures.items c.in_ok-try_rules.ensures

pub loop-address-smaller : goal.loop-address-smaller
loop-address-smaller c =
    grows_shrinks c.in-Some.address
    c.loop-address.returning.keys c.loop-address.waiting.items c.pop.new.self.items
    c.try_rules.new.returning.keys c.try_rules.new.waiting.items
    (few_seen c.try_rules.new.returning.keys (turned c).rising (turned c).low) c.in_ok-try_rules.ensures.grows c.in-Some.ensures.items

pub loop-address-preserved : goal.loop-address-preserved
loop-address-preserved c = turned c

pub returns : goal.returns
returns c =
    IsInferring-end c.args.rows.now c.in_ok-rules.rules.items c.loop-address.returning.keys c.loop-address.waiting.items
    c.in_ok-rules.ensures c.loop-address.invariant
    (empty_by c.loop-address.waiting.items (λ h. omega (arith, c.in_default.ensures.cases, c.loop-address.waiting.ok)))
