-- Slots in order, without blocks.
use Rattle.std.proofs.Common.{rules}
use Rattle.lru_concrete.proofs.Ordering.{holds-none}
use Rattle.lru_concrete.proofs.cache.Cache.empty.Goals as goal

pub invariant_of-result : goal.invariant_of-result
invariant_of-result c = (holds-none c.args.shape c.in_ok-slots_in_order.field-0 c.in_ok-vec.field-0.items
    c.in_ok-slots_in_order.ensures c.slots.result c.slots.ensures.count
    (c.in_ok-vec.ensures.items_if_clones_equal (λ y h. search rules))).keeps

pub returns : goal.returns
returns c = (holds-none c.args.shape c.in_ok-slots_in_order.field-0 c.in_ok-vec.field-0.items
    c.in_ok-slots_in_order.ensures c.slots.result c.slots.ensures.count
    (c.in_ok-vec.ensures.items_if_clones_equal (λ y h. search rules))).content
