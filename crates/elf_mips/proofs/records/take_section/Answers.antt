-- What one more section adds to the marks.
use Rattle.std.proofs.Common.{rules, ◌≡◌, ◌+◌, ◌++◌, List, map, sym, ◌∙◌, ap}
use Rattle.elf_mips.specs.Records.{mark_at, record_places_to}
use Rattle.elf_mips.specs.Sections.{entries}
use Rattle.elf_mips.specs.declared.mark.Mark.{Mark}
use Rattle.elf_mips.proofs.GoodSections.{records_inside}
use Rattle.elf_mips.proofs.RecordPlaces.{places_not, marks_one}
use Rattle.elf_mips.proofs.records.take_section.Goals as goal

pub returns-then-not-is_record_section-clause-ok : goal.returns-then-not-is_record_section-clause-ok
returns-then-not-is_record_section-clause-ok c =
    c.requires.before
    ∙ sym (ap (map (mark_at c.args.file.now)) (places_not c.args.file.now c.args.number
    c.section_at-at.result c.section_at-at.ensures.value (search rules)))

pub take_records-requires-clause-inside : goal.take_records-requires-clause-inside
take_records-requires-clause-inside c =
    records_inside c.args.file.now c.args.number c.section_at-at.result c.requires.good
    c.requires.there c.section_at-at.ensures.value (search rules)

pub returns-clause-ok : goal.returns-clause-ok
returns-clause-ok c =
    let all : c.args.marks ++ map (mark_at c.args.file.now)
    (entries c.args.file.now c.section_at-at.result)
    ≡ map (mark_at c.args.file.now) (record_places_to c.args.file.now (c.args.number + 1)) =
    ap (λ (front : List Mark). front ++ map (mark_at c.args.file.now)
    (entries c.args.file.now c.section_at-at.result)) c.requires.before
    ∙ marks_one c.args.file.now c.args.number c.section_at-at.result c.section_at-at.ensures.value
    (search rules) in
    search rules
