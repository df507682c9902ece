-- The records found are those of the address.
use Rattle.std.proofs.Common.{sym, ◌∙◌}
use Rattle.std.proofs.lemmas.Bool.{OnFalse_from, OnTrue_from}
use Rattle.elf_mips.specs.declared.mark.Mark.{Mark}
use Rattle.code_units.proofs.Ranging.{AreAt}
use Rattle.image_run.proofs.Cutting.{target-no, target-yes}
use Rattle.image_run.proofs.road.is_target.Goals as goal

pub returns-clause-yes : goal.returns-clause-yes
returns-clause-yes c =
    let at : AreAt (λ (m : Mark). m.address) c.args.targets.now c.args.address c.targets_at.result.now =
    record { within = c.targets_at.ensures.within; sound = c.targets_at.ensures.sound; whole = c.targets_at.ensures.whole } in
    OnTrue_from c.has_target.result _ (λ yes.
    target-yes c.args.image.now c.args.targets.now c.targets_at.result.now c.args.address c.args.next c.requires at
    (sym c.has_target.ensures ∙ yes))

pub returns-clause-no : goal.returns-clause-no
returns-clause-no c =
    let at : AreAt (λ (m : Mark). m.address) c.args.targets.now c.args.address c.targets_at.result.now =
    record { within = c.targets_at.ensures.within; sound = c.targets_at.ensures.sound; whole = c.targets_at.ensures.whole } in
    OnFalse_from c.has_target.result _ (λ no.
    target-no c.args.image.now c.args.targets.now c.targets_at.result.now c.args.address c.args.next c.requires at
    (sym c.has_target.ensures ∙ no))
