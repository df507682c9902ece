-- The sorted records of targets.
use Rattle.std.proofs.Common.{◌==◌, filter, rules, sym, subst, ap, ◌∙◌}
use Rattle.std.proofs.lemmas.List.Sorted.{IsNonDecreasingBy-from_sort_by_key}
use Rattle.elf_mips.specs.declared.mark.Mark.{Mark}
use Rattle.code_units.specs.Targets.{AreTargets}
use Rattle.code_units.proofs.Naming.{AreTargets-sorted}
use Rattle.code_units.proofs.targets.targets_of.Goals as goal

pub returns : goal.returns
returns c =
    subst (AreTargets c.args.image.now) (sym c.from_vec.ensures)
    (AreTargets-sorted c.args.image.now c.in_ok-targets.targets.items c.sort_by_key.new.self.items
    (c.in_ok-targets.ensures ∙ ap (filter (λ (mark : Mark). mark.kind == 2)) c.as_slice.ensures) c.sort_by_key.ensures.permutation
    (IsNonDecreasingBy-from_sort_by_key (λ (mark : Mark). mark.address)
    c.sort_by_key.new.self.items c.in_ok-sort_by_key.ensures.sorted (λ a r q k. search rules)))
