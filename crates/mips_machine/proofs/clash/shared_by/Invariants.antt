-- The least address shared with the stack and the regions looked at so far.
use Rattle.std.proofs.Common.{◌∷◌, take}
use Rattle.std.specs.Prelude.{map}
use Rattle.mips_machine.specs.Image.{area_of, region_of, stack_of}
use Rattle.mips_machine.specs.Clash.{FindsLeast, IsSharedBy}
use Rattle.mips_machine.proofs.clash.shared_by.Given as goal

abbrev pub invariant-loop-area : goal.invariant-loop-area
invariant-loop-area l =
    FindsLeast (IsSharedBy (region_of l.segment) (stack_of l.profile ∷ map area_of (take l.area-index l.area-items))) l.least
