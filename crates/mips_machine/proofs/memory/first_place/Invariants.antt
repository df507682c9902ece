-- No region that was passed takes the fill.
use Rattle.std.proofs.Common.{◌≡◌, ℕ, ◌<◌, false}
use Rattle.std.specs.Prelude.{slice_index_or}
use Rattle.mips_decode.specs.State.{Region}
use Rattle.mips_machine.specs.Image.{takes_fill}
use Rattle.mips_machine.proofs.memory.first_place.Given as goal

abbrev pub invariant-loop-place : goal.invariant-loop-place
invariant-loop-place l =
    (earlier : ℕ) (other : Region) → earlier < l.place → takes_fill l.fill (slice_index_or l.regions earlier other) ≡ false
