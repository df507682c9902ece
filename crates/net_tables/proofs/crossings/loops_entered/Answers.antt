-- Each arc adds its own.
use Rattle.std.proofs.Common.{◌+◌, subst, sym}
use Rattle.net_tables.proofs.Entered.{AreEnteredSoFar, entered-more}
use Rattle.net_tables.proofs.crossings.loops_entered.Goals as goal

pub loop-index-preserved : goal.loop-index-preserved
loop-index-preserved c =
    subst (AreEnteredSoFar c.args.net.now (c.loop-index.index + 1)) (sym c.in_ok-push.ensures.items)
    (entered-more c.args.net.now c.loop-index.index c.loop-index.scopes.items c.loop_entered.result
    c.loop_entered.ensures.entered c.loop_entered.ensures.inside c.loop-index.invariant)
