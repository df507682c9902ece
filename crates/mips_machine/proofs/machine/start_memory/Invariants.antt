-- The fills so far are put in.
use Rattle.std.proofs.Common.{take}
use Rattle.mips_machine.specs.Image.{regions_of}
use Rattle.mips_machine.proofs.FillLemmas.{FillsSoFar}
use Rattle.mips_machine.proofs.machine.start_memory.Given as goal

abbrev pub invariant-loop-fill : goal.invariant-loop-fill
invariant-loop-fill l = FillsSoFar (regions_of l.image l.profile) l.memory (take l.fill-index l.fills)
