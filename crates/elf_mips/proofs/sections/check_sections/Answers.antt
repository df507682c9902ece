-- The loop over the sections.
use Rattle.std.proofs.Common.{rules, arith}
use Rattle.elf_mips.specs.Faults.{Tells}
use Rattle.elf_mips.specs.Sections.{is_good_section}
use Rattle.elf_mips.proofs.Numbered.{good_more}
use Rattle.elf_mips.proofs.GoodSections.{tells_section, clean_sections}
use Rattle.elf_mips.proofs.sections.check_sections.Goals as goal

pub returns-in_err-keep-clause-err : goal.returns-in_err-keep-clause-err
returns-in_err-keep-clause-err c =
    let told : Tells c.args.file.now c.in_err-keep.field-0.0 =
    tells_section c.args.file.now c.loop-number.number c.in_err-keep.field-0.0 c.requires.clean
    (search rules) c.loop-number.invariant (search rules) in
    search rules

pub loop-number-preserved : goal.loop-number-preserved
loop-number-preserved c =
    good_more (is_good_section c.args.file.now) c.loop-number.number c.loop-number.invariant
    (search rules)

pub returns-clause-clean : goal.returns-clause-clean
returns-clause-clean c =
    clean_sections c.args.file.now c.requires.clean
    (λ k h. c.loop-number.invariant k (omega (arith, c.loop-number-test.false, c.u16_at-count.ensures.value)))
