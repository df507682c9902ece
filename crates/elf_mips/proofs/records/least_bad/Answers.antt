-- The least bad record of all sections.
use Rattle.std.proofs.Common.{arith}
use Rattle.elf_mips.proofs.LeastRecord.{least_all}
use Rattle.elf_mips.proofs.records.least_bad.Goals as goal

pub returns : goal.returns
returns c =
    least_all c.args.file.now c.loop-number.number c.loop-number.seen.least
    (omega (arith, c.u16_at-sections.ensures.value)) c.loop-number.invariant.2
