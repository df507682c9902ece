-- A load or store lies in its ranges just where it lies within the limits.
use Rattle.std.proofs.Common.{sym, ◌∙◌, subst}
use Rattle.std.specs.Prelude.{Option, not}
use Rattle.std.proofs.lemmas.Bool.{OnFalse_from, OnTrue_from}
use Rattle.mips_decode.specs.declared.step.Touched.{Touched}
use Rattle.image_run.specs.Course.{StaysInRanges}
use Rattle.image_run.specs.Road.{site_by}
use Rattle.image_run.proofs.Cutting.{hold-kept, kept-hold, not-false, not-true}
use Rattle.image_run.proofs.follow.leaves_range.Goals as goal

pub returns-in-Some-clause-yes : goal.returns-in-Some-clause-yes
returns-in-Some-clause-yes c =
    OnTrue_from (not c.hold.result) _ (λ leaves stays.
    not-true c.hold.result leaves (c.hold.ensures.holds ∙ kept-hold c.args.image.now (site_by c.args.spot.now.slot c.args.seen.now.address)
    c.args.spot.now.limits c.in-Some.access c.requires.tells.limits c.hold.ensures.small
    (subst (λ (o : Option Touched). StaysInRanges c.args.image.now (site_by c.args.spot.now.slot c.args.seen.now.address) o) c.in-Some.is stays)))

pub returns-in-Some-clause-no : goal.returns-in-Some-clause-no
returns-in-Some-clause-no c =
    OnFalse_from (not c.hold.result) _ (λ stays.
    subst (λ (o : Option Touched). StaysInRanges c.args.image.now (site_by c.args.spot.now.slot c.args.seen.now.address) o) (sym c.in-Some.is)
    (hold-kept c.args.image.now (site_by c.args.spot.now.slot c.args.seen.now.address) c.args.spot.now.limits c.in-Some.access
    c.requires.tells.limits c.hold.ensures.small (sym c.hold.ensures.holds ∙ not-false c.hold.result stays)))
