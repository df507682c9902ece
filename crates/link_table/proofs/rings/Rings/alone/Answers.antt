-- Rings of one node each.
use Rattle.link_table.proofs.Ringing.{alone-rings}
use Rattle.link_table.proofs.rings.Rings.alone.Goals as goal

pub invariant_of-result : goal.invariant_of-result
invariant_of-result c = alone-rings c.args.count _ _ c.in_ok-numbers.ensures c.in_ok-numbers-2.ensures
