-- The first sets have their slots.
use Rattle.lru_concrete.proofs.Ordering.{IsBegun}
use Rattle.lru_concrete.proofs.order.slots_in_order.Given as goal

abbrev pub invariant-loop-set : goal.invariant-loop-set
invariant-loop-set l = IsBegun l.shape.sets l.shape.ways l.set l.order
