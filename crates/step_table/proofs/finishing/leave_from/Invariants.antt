use Rattle.step_table.specs.Rings.{effort, IsDepth, KeepsSeen}
use Rattle.step_table.specs.Search.{IsSeen}
use Rattle.step_table.proofs.finishing.leave_from.Given as goal

abbrev pub invariant-loop-last : goal.invariant-loop-last
invariant-loop-last l = record {
  depth : IsDepth l.table l.order.items l.seen l.ahead l.trail.items;
  kept : KeepsSeen l.initial.seen l.seen;
  seen : IsSeen l.seen l.start;
}

-- Each turn takes a position from the trail, or looks at a step.
abbrev pub decreases-loop-last : goal.decreases-loop-last
decreases-loop-last l = effort l.seen l.ahead l.trail.items
