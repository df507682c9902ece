-- Where no record is bad, they are lawful and few.
use Rattle.elf_mips.proofs.LawfulRecords.{lawful_marks, few_marks}
use Rattle.elf_mips.proofs.records.check_records.Goals as goal

pub returns-in-None-clause-lawful : goal.returns-in-None-clause-lawful
returns-in-None-clause-lawful c = lawful_marks c.args.file.now c.in-None.ensures

pub returns-in-None-clause-few : goal.returns-in-None-clause-few
returns-in-None-clause-few c = few_marks c.args.file.now c.in-None.ensures
