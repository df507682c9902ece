use Rattle.std.proofs.Common.{length}
use Rattle.loop_nest.specs.Listing.{AreLoopsAt}
use Rattle.step_table.specs.Listing.{AreUnmarked}
use Rattle.loop_nest.proofs.listing.list_each.Given as goal

abbrev pub invariant-loop-header : goal.invariant-loop-header
invariant-loop-header l = record {
  are : AreLoopsAt l.addresses l.reverse l.sources l.bounds l.header l.loops;
  unmarked : AreUnmarked (length l.reverse) l.marks;
}
