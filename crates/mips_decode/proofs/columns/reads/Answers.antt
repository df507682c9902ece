-- The law of the places that are read, at the bits that were found.
use Rattle.std.proofs.Common.{subst, sym}
use Rattle.mips_decode.specs.Places.{ReadsOnly}
use Rattle.mips_decode.proofs.ReadPlaces.{reads-only}
use Rattle.mips_decode.proofs.columns.reads.Goals as goal

pub returns-clause-enough : goal.returns-clause-enough
returns-clause-enough c = λ valid.
    subst (λ bits. ReadsOnly bits c.args.instr.now) (sym c.operand_bits.ensures) (reads-only c.args.instr.now valid)
