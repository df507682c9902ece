use Rattle.std.proofs.Common.{ℕ, take}
use Rattle.std.specs.Prelude.{Contains}
use Rattle.step_table.specs.Search.{IsSeen}
use Rattle.step_table.proofs.listing.unmark.Given as goal

abbrev pub invariant-loop-position : goal.invariant-loop-position
invariant-loop-position l =
    (x : ℕ) → IsSeen l.marks x → IsSeen l.initial.marks x × (Contains (take l.position-index l.positions) x → ⊥)
