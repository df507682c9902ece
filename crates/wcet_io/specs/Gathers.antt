-- Which of its answers a gathering gives, by the file's length and by how many bytes came.
use Rattle.std.specs.Prelude.{◌≡◌, ℕ, ◌+◌, ◌<◌, ◌≤◌, List, length, Result, Ok, Err}
use Rattle.std.specs.declared.vec.Vec.{Vec}
use Rattle.wcet_io.specs.Counts.{raised}
use Rattle.wcet_io.specs.declared.whole.GatherFault.{GatherFault}
use Rattle.wcet_io.specs.declared.whole.GatherFault.TheVariants.{Memory, Read, TooLong}

-- Apart from a failed shelf and want of memory, the file's length alone decides.
abbrev pub Decided : {T : Type 0} → Result T GatherFault → ℕ → List ℕ → Type 0
Decided (Ok v) limit file = length file ≤ limit
Decided (Err TooLong) limit file = limit < length file
Decided (Err Read) limit file = Unit {0}
Decided (Err Memory) limit file = Unit {0}

-- The count of placed bytes rose by the bytes given, or by more than `limit`, or by no more than it.
abbrev pub Came : {Z : Type 0} → Result (Vec ℕ Z) GatherFault → ℕ → ℕ → ℕ → Type 0
Came (Ok v) limit before now = now ≡ raised before (length v.items)
Came (Err TooLong) limit before now = raised before (limit + 1) ≤ now
Came (Err Read) limit before now = now ≤ before + limit
Came (Err Memory) limit before now = now ≤ before + limit
