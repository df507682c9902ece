use Rattle.std.proofs.Common.{length}
use Rattle.loop_nest.specs.Bodies.{AreInner}
use Rattle.step_table.specs.Listing.{AreUnmarked}
use Rattle.loop_nest.proofs.bodies.note_all.Given as goal

abbrev pub invariant-loop-header : goal.invariant-loop-header
invariant-loop-header l = record {
  inner : AreInner l.reverse l.sources l.ranks l.header l.innermost;
  unmarked : AreUnmarked (length l.reverse) l.marks;
}
