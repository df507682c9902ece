use Rattle.std.proofs.Common.{take}
use Rattle.step_table.specs.Search.{Sees}
use Rattle.step_table.proofs.search.see_all.Given as goal

abbrev pub invariant-loop-position : goal.invariant-loop-position
invariant-loop-position l =
    Sees (take l.position-index l.positions) l.barred l.initial.seen l.initial.waiting.items l.seen l.waiting.items
