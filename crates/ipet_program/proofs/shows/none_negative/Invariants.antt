-- No sum before this one is negative.
use Rattle.std.proofs.Common.{ℕ, ◌<◌, ◌≤ℤ◌, get_or, pos}
use Rattle.ipet_program.proofs.shows.none_negative.Given as goal

abbrev pub invariant-loop-position : goal.invariant-loop-position
invariant-loop-position l = (k : ℕ) → k < l.position → pos 0 ≤ℤ get_or l.sums k (pos 0)
