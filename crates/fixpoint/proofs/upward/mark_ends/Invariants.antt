-- The marks so far are those of reached places.
use Rattle.std.proofs.Common.{◌≡◌, ℕ, true, length}
use Rattle.fixpoint.specs.Upward.{IsReached}
use Rattle.fixpoint.specs.Values.{waits}
use Rattle.fixpoint.proofs.upward.mark_ends.Given as goal

abbrev pub invariant-loop-arc : goal.invariant-loop-arc
invariant-loop-arc l =
    (length l.reached ≡ length l.initial.reached) × ((place : ℕ) → waits l.reached place ≡ true → IsReached l.arcs place)
