use Rattle.std.proofs.Common.{arith}
use Rattle.step_table.proofs.cycles.first_cyclic.Goals as goal

pub returns : goal.returns
returns c position inside =
    c.loop-position.invariant position (omega (arith, inside, c.loop-position-test.false, c.loop-position.auto))
