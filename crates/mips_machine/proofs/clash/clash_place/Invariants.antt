-- The least address shared by the segments looked at so far.
use Rattle.std.proofs.Common.{take}
use Rattle.mips_machine.specs.Clash.{FindsLeast, IsClashOf}
use Rattle.mips_machine.proofs.clash.clash_place.Given as goal

abbrev pub invariant-loop-segment : goal.invariant-loop-segment
invariant-loop-segment l = FindsLeast (IsClashOf (take l.segment-index l.segment-items) l.profile) l.least
