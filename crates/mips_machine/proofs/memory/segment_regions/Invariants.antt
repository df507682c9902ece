-- The regions so far are those of the segments so far, which hold bytes.
use Rattle.std.proofs.Common.{◌≡◌, map, take, All}
use Rattle.mips_machine.specs.Image.{HasBytes, region_of}
use Rattle.mips_machine.proofs.memory.segment_regions.Given as goal

abbrev pub invariant-loop-segment : goal.invariant-loop-segment
invariant-loop-segment l =
    (l.regions.items ≡ map region_of (take l.segment-index l.segments)) × All HasBytes (take l.segment-index l.segments)
