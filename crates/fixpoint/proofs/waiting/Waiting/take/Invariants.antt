-- No place was taken yet, and no list deeper than the one in turn has a place.
use Rattle.std.proofs.Common.{◌≡◌}
use Rattle.fixpoint.specs.Queues.{IsQueue}
use Rattle.fixpoint.proofs.waiting.Waiting.take.Given as goal

abbrev pub invariant-loop-place : goal.invariant-loop-place
invariant-loop-place l = record {
  queue : IsQueue l.self-inside.lists l.self-inside.depths.items l.self-inside.marks.items l.self-inside.deepest;
  same : l.self-inside.marks.items ≡ l.fn.self;
}

abbrev pub decreases-loop-place : goal.decreases-loop-place
decreases-loop-place l = l.self-inside.deepest
