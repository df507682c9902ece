-- The fills that were passed have their places.
use Rattle.std.proofs.Common.{All, take}
use Rattle.mips_machine.specs.Image.{IsFillable, regions_of}
use Rattle.mips_machine.proofs.fillable.are_fillable.Given as goal

abbrev pub invariant-loop-fill : goal.invariant-loop-fill
invariant-loop-fill l = All (IsFillable (regions_of l.image l.profile)) (take l.fill-index l.memory)
