-- The regions so far are the segments', the stack, and those of the areas so far.
use Rattle.std.proofs.Common.{◌≡◌, ◌∷◌, ◌++◌, map, take}
use Rattle.mips_machine.specs.Image.{area_of, region_of, stack_of}
use Rattle.mips_machine.proofs.memory.start_regions.Given as goal

abbrev pub invariant-loop-area : goal.invariant-loop-area
invariant-loop-area l =
    l.regions.items ≡ map region_of l.image.segments ++ (stack_of l.profile ∷ map area_of (take l.area-index l.area-items))
