-- A visit from outside begins anew, and one from inside takes a turn.
use Rattle.std.proofs.Common.{◌-◌, arith}
use Rattle.image_run.proofs.Turning.{enters-turn, no-turn, returns-turn}
use Rattle.image_run.proofs.turns.turn.Goals as goal

pub returns-then-is_outside-clause-some : goal.returns-then-is_outside-clause-some
returns-then-is_outside-clause-some c =
    let some = c.requires.bound in
    enters-turn c.args.net.now c.args.scope c.args.inst.now c.args.from c.args.left (c.args.inst.now.bound - 1) c.if-is_outside.ensures.outside (omega (arith, some))

pub returns-then-left-eq0-clause-none : goal.returns-then-left-eq0-clause-none
returns-then-left-eq0-clause-none c =
    no-turn c.args.net.now c.args.scope c.args.inst.now c.args.from c.args.left c.if-is_outside.ensures.held (omega arith)

pub returns-clause-some : goal.returns-clause-some
returns-clause-some c =
    returns-turn c.args.net.now c.args.scope c.args.inst.now c.args.from c.args.left (c.args.left - 1) c.if-is_outside.ensures.held (omega arith)
