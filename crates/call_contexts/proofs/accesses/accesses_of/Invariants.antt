-- The accesses of the places so far.
use Rattle.std.proofs.Common.{◌≡◌, ℕ, take}
use Rattle.elf_mips.specs.declared.image.Image.{Image}
use Rattle.net_model.specs.Accesses.{accesses_from}
use Rattle.call_contexts.specs.Spots.{IsLaidProgram}
use Rattle.call_contexts.proofs.accesses.accesses_of.Given as goal

abbrev pub invariant-loop-index : goal.invariant-loop-index
invariant-loop-index l =
    (image : Image) (entry : ℕ) → IsLaidProgram image entry l.graphs l.layout →
    l.accesses.items ≡ accesses_from image 1 (take l.index l.places)
