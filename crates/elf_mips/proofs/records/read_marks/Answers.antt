-- The marks of all sections.
use Rattle.std.proofs.Common.{◌≡◌, map, ap, ◌∙◌, arith}
use Rattle.elf_mips.specs.Fields.{e_shnum}
use Rattle.elf_mips.specs.Records.{mark_at, record_places_to}
use Rattle.elf_mips.proofs.records.read_marks.Goals as goal

pub returns-clause-marks : goal.returns-clause-marks
returns-clause-marks c =
    let whole : c.loop-number.number ≡ e_shnum c.args.file.now =
    omega (arith, c.loop-number-test.false, c.loop-number.auto.number-end, c.u16_at-sections.ensures.value) in
    c.loop-number.invariant
    ∙ ap (λ n. map (mark_at c.args.file.now) (record_places_to c.args.file.now n)) whole
