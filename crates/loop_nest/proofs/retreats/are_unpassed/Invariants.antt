use Rattle.std.proofs.Common.{ℕ, ◌<◌, length}
use Rattle.loop_nest.specs.Arcs.{IsPassedBy}
use Rattle.step_table.specs.Listing.{AreUnmarked}
use Rattle.loop_nest.proofs.retreats.are_unpassed.Given as goal

abbrev pub invariant-loop-header : goal.invariant-loop-header
invariant-loop-header l = record {
  none : (header : ℕ) → header < l.header → IsPassedBy l.reverse l.sources l.entry header → ⊥;
  unmarked : AreUnmarked (length l.reverse) l.marks;
}
