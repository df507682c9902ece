-- What one more section adds to the records.
use Rattle.std.proofs.Common.{rules, arith, ◌≡◌, true, length, sym, ◌∙◌, ap}
use Rattle.elf_mips.specs.Sections.{is_record_section}
use Rattle.elf_mips.proofs.GoodSections.{records_inside}
use Rattle.elf_mips.proofs.RecordPlaces.{places_not, count_one}
use Rattle.elf_mips.proofs.LeastRecord.{least_not, least_one}
use Rattle.elf_mips.proofs.records.see_section.Goals as goal

pub returns-then-not-is_record_section-clause-counted : goal.returns-then-not-is_record_section-clause-counted
returns-then-not-is_record_section-clause-counted c =
    c.requires.counted
    ∙ sym (ap length (places_not c.args.file.now c.args.number c.section_at-at.result
    c.section_at-at.ensures.value (search rules)))

pub returns-then-not-is_record_section-clause-least : goal.returns-then-not-is_record_section-clause-least
returns-then-not-is_record_section-clause-least c =
    least_not c.args.file.now c.args.number c.section_at-at.result c.args.seen.least
    c.section_at-at.ensures.value (search rules) c.requires.least

pub first_bad-requires-clause-inside : goal.first_bad-requires-clause-inside
first_bad-requires-clause-inside c =
    records_inside c.args.file.now c.args.number c.section_at-at.result c.requires.good
    c.requires.there c.section_at-at.ensures.value (search rules)

pub returns-clause-counted : goal.returns-clause-counted
returns-clause-counted c =
    let is : is_record_section c.args.file.now c.section_at-at.result ≡ true = search rules in
    let more = count_one c.args.file.now c.args.number c.section_at-at.result
    c.section_at-at.ensures.value is in
    omega (arith, more, c.requires.counted, c.from.ensures, c.u32_at.ensures)

pub returns-clause-least : goal.returns-clause-least
returns-clause-least c =
    least_one c.args.file.now c.args.number c.section_at-at.result c.args.seen.count
    c.args.seen.least c.first_bad.result c.lesser.result c.section_at-at.ensures.value
    (search rules) c.requires.counted c.requires.least c.first_bad.ensures c.lesser.ensures
