use Rattle.std.specs.BTreeMap.{get}
use Rattle.std.specs.Ordering.{nat_cmp}
use Rattle.loop_nest.specs.Bounds.{AreBoundsBy}
use Rattle.loop_nest.proofs.bounds.lower_all.Given as goal

abbrev pub invariant-loop-position : goal.invariant-loop-position
invariant-loop-position l = AreBoundsBy l.units l.innermost (get nat_cmp l.recorded) l.position l.bounds
