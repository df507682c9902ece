-- The slots of the next set stand in no list yet.
use Rattle.std.proofs.Common.{◌≡◌, ◌*◌, arith}
use Rattle.lru_concrete.proofs.Ordering.{begun-free}
use Rattle.lru_concrete.proofs.order.slots_in_order.Goals as goal

pub fill_set-requires-clause-free : goal.fill_set-requires-clause-free
fill_set-requires-clause-free c slot low =
    begun-free c.args.shape.sets c.args.shape.ways c.loop-set.set c.loop-set.order c.loop-set.invariant slot
    (let e : c.first_slot.result ≡ c.loop-set.set * c.args.shape.ways = c.first_slot.ensures.first in omega arith)
