-- A depth for 0 and for each place so far.
use Rattle.std.proofs.Common.{◌≡◌, ◌+◌, ◌<◌, length}
use Rattle.std.specs.Prelude.{All}
use Rattle.fixpoint.proofs.solving.queue_depths.Given as goal

abbrev pub invariant-loop-depth : goal.invariant-loop-depth
invariant-loop-depth l = record {
  size : length l.depths.items ≡ l.depth-index + 1;
  low : All (λ depth. depth < 65536) l.depths.items;
}
