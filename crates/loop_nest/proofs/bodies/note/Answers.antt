use Rattle.std.proofs.Common.{None, arith}
use Rattle.loop_nest.proofs.Holding.{noted_more}
use Rattle.loop_nest.proofs.bodies.note.Goals as goal

pub loop-position-preserved : goal.loop-position-preserved
loop-position-preserved c =
    noted_more c.args.body.now c.args.ranks.now c.args.header c.loop-position.position-index c.lesser.result
    c.args.innermost.now c.loop-position.innermost None c.requires.apart c.loop-position-test.true
    c.loop-position.invariant
    (omega (arith, c.requires.body c.loop-position.position-index 0 c.loop-position-test.true, c.loop-position.invariant.count))
    c.lesser.ensures
