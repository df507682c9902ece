use Rattle.std.proofs.Common.{length}
use Rattle.step_table.proofs.Ringing.{IsMarking}
use Rattle.step_table.proofs.rings.mark_all.Given as goal

abbrev pub invariant-loop-position : goal.invariant-loop-position
invariant-loop-position l = IsMarking l.table l.reverse l.order.items l.seen l.marks

abbrev pub decreases-loop-position : goal.decreases-loop-position
decreases-loop-position l = length l.order.items
