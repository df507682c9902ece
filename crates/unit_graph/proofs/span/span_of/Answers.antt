use Rattle.std.proofs.Common.{arith}
use Rattle.unit_graph.specs.Rows.{MayLeadAt}
use Rattle.unit_graph.specs.Search.{IsSearch}
use Rattle.unit_graph.proofs.Searching.{IsSearch-end, IsSearch-start, IsSearch-turn, few_seen, turn_shrinks}
use Rattle.unit_graph.proofs.span.span_of.Goals as goal

pub loop-address-init : goal.loop-address-init
loop-address-init c =
    IsSearch-start (MayLeadAt c.args.image.now) c.args.entry c.new-seen.result.keys c.new-waiting.result.items
    c.see.new.seen.keys c.see.new.waiting.items
    c.new-seen.ensures.empty c.new-waiting.ensures.items c.new-seen.ensures.ordered c.in_ok-see.ensures

turned : (c : goal.In_ok-see_from) →
    IsSearch (MayLeadAt c.args.image.now) c.args.entry c.see_from.new.seen.keys c.see_from.new.waiting.items
turned c =
    IsSearch-turn (MayLeadAt c.args.image.now) c.args.entry c.in-Some.address
    c.loop-address.seen.keys c.loop-address.waiting.items c.pop.new.self.items
    c.see_from.new.seen.keys c.see_from.new.waiting.items
    c.loop-address.invariant c.in-Some.ensures.items c.in_ok-see_from.ensures

pub loop-address-smaller : goal.loop-address-smaller
loop-address-smaller c =
    turn_shrinks (MayLeadAt c.args.image.now c.in-Some.address) c.in-Some.address
    c.loop-address.seen.keys c.loop-address.waiting.items c.pop.new.self.items
    c.see_from.new.seen.keys c.see_from.new.waiting.items
    (few_seen c.see_from.new.seen.keys (turned c).rising (turned c).low) c.in_ok-see_from.ensures c.in-Some.ensures.items

pub loop-address-preserved : goal.loop-address-preserved
loop-address-preserved c = turned c

pub returns : goal.returns
returns c =
    IsSearch-end (MayLeadAt c.args.image.now) c.args.entry c.loop-address.seen.keys c.loop-address.waiting.items
    c.loop-address.invariant (λ h. omega (arith, c.in_default.ensures.cases, c.loop-address.waiting.ok))
