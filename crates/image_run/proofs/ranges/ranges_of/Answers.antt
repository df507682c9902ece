-- The sorted records of ranges.
use Rattle.std.proofs.Common.{◌==◌, filter, rules, sym, subst, ap, ◌∙◌}
use Rattle.std.proofs.lemmas.List.Sorted.{IsNonDecreasingBy-from_sort_by_key}
use Rattle.elf_mips.specs.declared.mark.Mark.{Mark}
use Rattle.image_run.specs.Ranges.{AreRanges}
use Rattle.image_run.proofs.Cutting.{AreRanges-sorted}
use Rattle.image_run.proofs.ranges.ranges_of.Goals as goal

pub returns : goal.returns
returns c =
    subst (AreRanges c.args.image.now) (sym c.from_vec.ensures)
    (AreRanges-sorted c.args.image.now c.in_ok-ranges.ranges.items c.sort_by_key.new.self.items
    (c.in_ok-ranges.ensures ∙ ap (filter (λ (mark : Mark). mark.kind == 3)) c.as_slice.ensures) c.sort_by_key.ensures.permutation
    (IsNonDecreasingBy-from_sort_by_key (λ (mark : Mark). mark.address)
    c.sort_by_key.new.self.items c.in_ok-sort_by_key.ensures.sorted (λ a r q k. search rules)))
