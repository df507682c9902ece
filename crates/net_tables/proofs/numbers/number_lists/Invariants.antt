-- The numbers of the items so far stand in their lists.
use Rattle.std.proofs.Common.{take}
use Rattle.net_tables.specs.Numbers.{AreNumbers}
use Rattle.net_tables.proofs.numbers.number_lists.Given as goal

abbrev pub invariant-loop-index : goal.invariant-loop-index
invariant-loop-index l = AreNumbers l.most (take l.index l.keys) l.lists.items
