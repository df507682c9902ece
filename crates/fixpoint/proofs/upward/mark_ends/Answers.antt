-- One more arc marks where it goes to, if it comes from a lesser place.
use Rattle.std.proofs.Common.{◌∙◌, arith}
use Rattle.fixpoint.proofs.UpwardNets.{marked-more}
use Rattle.fixpoint.proofs.upward.mark_ends.Goals as goal

pub loop-arc-preserved : goal.loop-arc-preserved
loop-arc-preserved c =
    let low = c.requires.ends c.loop-arc.arc-index (record { from = 0; to = 0 }) (omega arith) in
    let more = marked-more c.args.arcs.now c.loop-arc.arc-index (record { from = 0; to = 0 }) c.loop-arc.reached
    c.mark_end.new.reached (omega arith) (omega (arith, low, c.loop-arc.invariant.0)) c.mark_end.ensures
    c.loop-arc.invariant.1 in
    (more.0 ∙ c.loop-arc.invariant.0, more.1)
