-- The first ways stand in the list.
use Rattle.std.proofs.Common.{◌≡◌}
use Rattle.std.specs.List.{range_with_len}
use Rattle.link_table.specs.Lists.{with_list}
use Rattle.lru_concrete.proofs.order.fill_set.Given as goal

abbrev pub invariant-loop-way : goal.invariant-loop-way
invariant-loop-way l = l.order ≡ with_list l.initial.order l.set (range_with_len l.first l.way)
