use Rattle.std.proofs.Common.{length}
use Rattle.loop_nest.specs.Arcs.{AreBacksTo}
use Rattle.step_table.specs.Listing.{AreUnmarked}
use Rattle.loop_nest.proofs.removal.backs_each.Given as goal

abbrev pub invariant-loop-header : goal.invariant-loop-header
invariant-loop-header l = record {
  are : AreBacksTo l.table l.entry l.header l.sources.items;
  unmarked : AreUnmarked (length l.reverse) l.marks;
}
