use Rattle.std.proofs.Common.{◌∙◌}
use Rattle.elf_mips.specs.declared.mark.Mark.{Mark}
use Rattle.code_units.proofs.Naming.{none_found}
use Rattle.code_units.proofs.Ranging.{AreAt}
use Rattle.code_units.proofs.linked.has_no_target.Goals as goal

pub returns : goal.returns
returns c =
    let at : AreAt (λ (mark : Mark). mark.address) c.args.targets.now c.args.address c.targets_at.result.now = record {
      within = c.targets_at.ensures.within;
      sound = c.targets_at.ensures.sound;
      whole = c.targets_at.ensures.whole;
    } in
    c.is_empty.ensures ∙ none_found c.args.image.now c.args.targets.now c.targets_at.result.now c.args.address c.requires at
