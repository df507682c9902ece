-- Each range cuts the limits further.
use Rattle.std.proofs.Common.{ℕ, ap, ◌∙◌, arith}
use Rattle.std.specs.Prelude.{min}
use Rattle.image_run.proofs.Cutting.{cut-all, cut-more}
use Rattle.image_run.proofs.ranges.cut.Goals as goal

pub loop-mark-preserved : goal.loop-mark-preserved
loop-mark-preserved c =
    cut-more c.args.marks.now c.loop-mark.mark-index (record { kind = 0; address = 0; x = 0; y = 0 }) c.loop-mark.limits
    (record { from = c.max.result; to = c.min.result }) c.loop-mark-test.true c.loop-mark.invariant c.max.ensures
    (c.min.ensures ∙ ap (λ (n : ℕ). min c.loop-mark.limits.to n) c.from.ensures)

pub returns : goal.returns
returns c = cut-all c.args.marks.now c.loop-mark.mark-index c.loop-mark.limits (omega arith) c.loop-mark.invariant
