-- Each value before this one is covered.
use Rattle.std.proofs.Common.{ℕ, ◌<◌, ◌*ℤ◌, ◌≤ℤ◌, get_or, pos}
use Rattle.ipet_program.proofs.shows.are_covered.Given as goal

abbrev pub invariant-loop-position : goal.invariant-loop-position
invariant-loop-position l =
    (k : ℕ) → k < l.position → (l.denom *ℤ get_or l.values k (pos 0)) ≤ℤ get_or l.sums k (pos 0)
