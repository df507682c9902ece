-- Slots in order, with the blocks in front.
use Rattle.lru_concrete.proofs.Ordering.{holds-given}
use Rattle.lru_concrete.proofs.cache.Cache.holding.Goals as goal

pub invariant_of-result : goal.invariant_of-result
invariant_of-result c = (holds-given c.args.shape c.in_ok-slots_in_order.field-0 c.in_ok-slots_holding.field-0.items c.args.sets.now
    c.in_ok-slots_in_order.ensures c.in_ok-slots_holding.ensures c.requires).keeps

pub returns : goal.returns
returns c = (holds-given c.args.shape c.in_ok-slots_in_order.field-0 c.in_ok-slots_holding.field-0.items c.args.sets.now
    c.in_ok-slots_in_order.ensures c.in_ok-slots_holding.ensures c.requires).content
