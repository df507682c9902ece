-- Where a section header stands.
use Rattle.std.proofs.Common.{arith}
use Rattle.elf_mips.proofs.section.section_at.Goals as goal

pub returns-clause-there : goal.returns-clause-there
returns-clause-there c =
    let room = c.requires.room c.args.number c.requires.few in
    omega (arith, room, c.u32_at.ensures)
