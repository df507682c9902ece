use Rattle.std.proofs.Common.{take}
use Rattle.std.specs.BTreeMap.{get}
use Rattle.std.specs.Ordering.{nat_cmp}
use Rattle.loop_nest.specs.Bounds.{AreRecorded}
use Rattle.loop_nest.proofs.recorded.recorded_bounds.Given as goal

abbrev pub invariant-loop-mark : goal.invariant-loop-mark
invariant-loop-mark l = AreRecorded (take l.mark-index l.marks) (get nat_cmp l.recorded)
