-- The limits hold what lies in all ranges so far.
use Rattle.std.proofs.Common.{take}
use Rattle.image_run.specs.Ranges.{IsCut}
use Rattle.image_run.proofs.ranges.cut.Given as goal

abbrev pub invariant-loop-mark : goal.invariant-loop-mark
invariant-loop-mark l = IsCut (take l.mark-index l.marks) l.limits
