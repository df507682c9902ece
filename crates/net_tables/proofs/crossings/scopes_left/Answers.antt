-- Each arc adds its own.
use Rattle.std.proofs.Common.{◌+◌, subst, sym}
use Rattle.net_tables.proofs.Leaving.{AreLeftSoFar, left-more}
use Rattle.net_tables.proofs.crossings.scopes_left.Goals as goal

pub loop-index-preserved : goal.loop-index-preserved
loop-index-preserved c =
    subst (AreLeftSoFar c.args.net.now (c.loop-index.index + 1)) (sym c.in_ok-push.ensures.items)
    (left-more c.args.net.now c.loop-index.index c.loop-index.lists.items _
    c.in_ok-scopes_left_along.ensures c.loop-index.invariant)
