-- The law of the places that are written, at the bits that were found.
use Rattle.std.proofs.Common.{subst, sym}
use Rattle.mips_decode.specs.Places.{WritesOnly}
use Rattle.mips_decode.proofs.WrittenPlaces.{writes-only}
use Rattle.mips_decode.proofs.columns.writes.Goals as goal

pub returns-clause-only : goal.returns-clause-only
returns-clause-only c =
    subst (λ bits. WritesOnly bits c.args.instr.now) (sym c.result_bits.ensures) (writes-only c.args.instr.now)
