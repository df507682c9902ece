-- The numbers so far are marked.
use Rattle.std.proofs.Common.{◌≡◌, ℕ, ◌<◌, true}
use Rattle.fixpoint.specs.Values.{waits}
use Rattle.fixpoint.proofs.upward.are_marked.Given as goal

abbrev pub invariant-loop-place : goal.invariant-loop-place
invariant-loop-place l = (place : ℕ) → 0 < place → place < l.place → waits l.reached place ≡ true
