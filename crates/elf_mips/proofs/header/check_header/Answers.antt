-- Each exit of the header's checks answers the first fault.
use Rattle.std.proofs.Common.{rules}
use Rattle.elf_mips.proofs.Firsts.{tells_size, tells_magic, tells_kind, tells_table, after_table}
use Rattle.elf_mips.proofs.header.check_header.Goals as goal

pub returns-in_err-check_size-clause-err : goal.returns-in_err-check_size-clause-err
returns-in_err-check_size-clause-err c = search (rules, tells_size)

pub returns-in_err-check_magic-clause-err : goal.returns-in_err-check_magic-clause-err
returns-in_err-check_magic-clause-err c = search (rules, tells_magic)

pub returns-in_err-check_kind-clause-err : goal.returns-in_err-check_kind-clause-err
returns-in_err-check_kind-clause-err c = search (rules, tells_kind)

pub returns-clause-ok : goal.returns-clause-ok
returns-clause-ok c = search (rules, after_table)

pub returns-clause-err : goal.returns-clause-err
returns-clause-err c = search (rules, tells_table)
