-- The first bad record of a section is its least one.
use Rattle.std.proofs.Common.{◌+◌, ◌*◌, sym, ◌∙◌, ap, arith}
use Rattle.elf_mips.specs.Records.{is_good_record}
use Rattle.elf_mips.proofs.Numbered.{good_more}
use Rattle.elf_mips.proofs.LeastRecord.{first_least, none_least}
use Rattle.elf_mips.proofs.records.first_bad.Goals as goal

pub returns-then-not-is_good_record : goal.returns-then-not-is_good_record
returns-then-not-is_good_record c =
    first_least c.args.file.now c.args.first c.args.at c.u32_at-offset.result c.u32_at-count.result
    c.loop-number.number c.u32_at-offset.ensures c.u32_at-count.ensures c.loop-number-test.true
    c.loop-number.invariant
    (ap (λ n. is_good_record c.args.file.now (c.args.first + n)
    (c.u32_at-offset.result + 16 * c.loop-number.number)) (sym c.from.ensures)
    ∙ sym c.is_good_record.ensures ∙ c.if-not-is_good_record.true)

pub loop-number-preserved : goal.loop-number-preserved
loop-number-preserved c =
    good_more
    (λ k. is_good_record c.args.file.now (c.args.first + k) (c.u32_at-offset.result + 16 * k))
    c.loop-number.number c.loop-number.invariant
    (ap (λ n. is_good_record c.args.file.now (c.args.first + n)
    (c.u32_at-offset.result + 16 * c.loop-number.number)) (sym c.from.ensures)
    ∙ sym c.is_good_record.ensures ∙ c.if-not-is_good_record.false)

pub returns : goal.returns
returns c =
    none_least c.args.file.now c.args.first c.args.at c.u32_at-offset.result c.u32_at-count.result
    c.u32_at-offset.ensures c.u32_at-count.ensures
    (λ k h. c.loop-number.invariant k (omega (arith, c.loop-number-test.false)))
