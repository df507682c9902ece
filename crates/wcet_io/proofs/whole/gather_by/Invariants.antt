-- A front of the file came, and each turn makes it longer within the limit.
use Rattle.std.proofs.Common.{◌≡◌, ℕ, ◌-◌, ◌≤◌, List, length}
use Rattle.wcet_io.proofs.Gathered.{Gathered}
use Rattle.wcet_io.proofs.whole.gather_by.Given as goal

abbrev pub invariant-loop-bytes : goal.invariant-loop-bytes
invariant-loop-bytes g l =
    let shelf = g.F.Shelf in
    Gathered l.limit (shelf.told l.initial.shelf l.name) l.bytes.items
    (shelf.placed l.initial.shelf) (shelf.placed l.shelf)
    × ((other : List ℕ) → shelf.told l.shelf other ≡ shelf.told l.initial.shelf other)
    × (shelf.faults l.initial.shelf ≤ shelf.faults l.shelf)

abbrev pub decreases-loop-bytes : goal.decreases-loop-bytes
decreases-loop-bytes g l = l.limit - length l.bytes.items
