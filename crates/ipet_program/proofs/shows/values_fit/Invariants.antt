-- Each value before this one fits.
use Rattle.std.proofs.Common.{ℕ, ◌<◌, ◌*ℤ◌, get_or, pos, FitsSigned}
use Rattle.std.specs.Int.{w128}
use Rattle.ipet_program.proofs.shows.values_fit.Given as goal

abbrev pub invariant-loop-position : goal.invariant-loop-position
invariant-loop-position l = (k : ℕ) → k < l.position → FitsSigned w128 (l.denom *ℤ get_or l.values k (pos 0))
