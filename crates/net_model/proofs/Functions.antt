-- Reaching and returning, from one unit to the next.
use Rattle.std.proofs.Common.{ℕ}
use Rattle.elf_mips.specs.declared.image.Image.{Image}
use Rattle.net_model.specs.Functions.{CanReturn, GoesOn, IsReached, first, next, returned}

-- What is reached from a reached address is reached.
pub reached-through : (image : Image) (function address : ℕ) → IsReached image function address → (later : ℕ) →
    IsReached image address later → IsReached image function later
reached-through image function address there _ (first _) = there
reached-through image function address there _ (next _ before later reached on) =
    next function before later (reached-through image function address there before reached) on

-- A unit can return where one of its onward units can.
pub CanReturn-before : (image : Image) (address later : ℕ) → GoesOn image address later → CanReturn image later →
    CanReturn image address
CanReturn-before image address later on (returned _ last unit reached stands leaves) =
    returned address last unit
    (reached-through image address later (next address address later (first address) on) last reached)
    stands leaves
