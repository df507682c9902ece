-- The records of targets by the addresses of their jumps and calls.
use Rattle.std.specs.Prelude.{◌≡◌, List, All, Contains}
use Rattle.std.specs.List.Sorted.{IsNonDecreasingBy}
use Rattle.elf_mips.specs.declared.image.Image.{Image}
use Rattle.elf_mips.specs.declared.mark.Mark.{Mark}

-- The image's records of kind 2, by rising addresses.
pub record AreTargets (image : Image) (targets : List Mark) : Type 0 where
  pub rising : IsNonDecreasingBy (λ (mark : Mark). mark.address) targets
  pub sound : All (λ (mark : Mark). Contains image.marks mark × (mark.kind ≡ 2)) targets
  pub whole : All (λ (mark : Mark). mark.kind ≡ 2 → Contains targets mark) image.marks
