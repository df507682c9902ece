use Rattle.std.proofs.Common.{◌+◌, arith, subst, sym}
use Rattle.loop_nest.specs.Arcs.{AreRetreatsTo}
use Rattle.loop_nest.proofs.Retreating.{retreats_more, retreats_within}
use Rattle.loop_nest.proofs.retreats.retreats_of.Goals as goal

pub loop-header-preserved : goal.loop-header-preserved
loop-header-preserved c =
    subst (AreRetreatsTo c.args.reverse.now c.args.ranks.now (c.loop-header.header + 1)) (sym c.in_ok-push.ensures.items)
    (retreats_more c.args.reverse.now c.args.ranks.now c.loop-header.header c.loop-header.sources.items
    c.steps_at.result.now c.in_ok-retreating.field-0 c.loop-header.invariant c.steps_at.ensures.there
    c.in_ok-retreating.ensures)

pub returns-clause-within : goal.returns-clause-within
returns-clause-within c =
    retreats_within c.args.reverse.now c.args.ranks.now c.loop-header.header c.loop-header.sources.items
    c.requires.within c.loop-header.invariant (omega (arith, c.loop-header-test.false, c.loop-header.auto))
