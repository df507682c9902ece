-- The records of a section, one by one.
use Rattle.std.proofs.Common.{◌≡◌, ◌+◌, ◌*◌, ◌∷◌, [], ◌++◌, ◌/◌, map, sym, ◌∙◌, ap, append-nil, arith}
use Rattle.std.specs.List.{range_with_len}
use Rattle.elf_mips.specs.Records.{mark_at}
use Rattle.elf_mips.proofs.More.{map_more}
use Rattle.elf_mips.proofs.RecordPlaces.{entries_is}
use Rattle.elf_mips.proofs.records.take_records.Goals as goal

pub loop-number-init : goal.loop-number-init
loop-number-init c = sym (append-nil c.args.marks)

pub loop-number-preserved : goal.loop-number-preserved
loop-number-preserved c =
    c.in_ok-push.ensures.ok
    ∙ ap (λ m. c.loop-number.all ++ m ∷ []) c.mark_at.ensures
    ∙ map_more (mark_at c.args.file.now) (λ k. c.u32_at-offset.result + 16 * k)
    c.loop-number.number c.args.marks c.loop-number.all c.loop-number.invariant

pub returns-clause-ok : goal.returns-clause-ok
returns-clause-ok c =
    let whole : c.loop-number.number ≡ c.u32_at-count.result / 16 =
    omega (arith, c.loop-number-test.false, c.loop-number.auto.number-end) in
    c.loop-number.invariant
    ∙ ap (λ n. c.args.marks ++ map (mark_at c.args.file.now)
    (map (λ k. c.u32_at-offset.result + 16 * k) (range_with_len 0 n))) whole
    ∙ ap (λ places. c.args.marks ++ map (mark_at c.args.file.now) places)
    (sym (entries_is c.args.file.now c.args.at c.u32_at-offset.result c.u32_at-count.result
    c.u32_at-offset.ensures c.u32_at-count.ensures))
