-- No slot so far holds the block.
use Rattle.std.proofs.Common.{◌≢◌, ℕ, ◌<◌, ◌≤◌, Some}
use Rattle.lru_concrete.specs.Slots.{block_at}
use Rattle.lru_concrete.proofs.slots.find.Given as goal

abbrev pub invariant-loop-slot : goal.invariant-loop-slot
invariant-loop-slot l = (slot : ℕ) → l.first ≤ slot → slot < l.slot → block_at l.slots slot ≢ Some l.block
