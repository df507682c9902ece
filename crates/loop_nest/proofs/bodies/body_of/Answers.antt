use Rattle.std.proofs.Common.{subst, sym}
use Rattle.loop_nest.specs.Bodies.{IsBody}
use Rattle.loop_nest.proofs.Holding.{body_by}
use Rattle.loop_nest.proofs.bodies.body_of.Goals as goal

pub returns-clause-body : goal.returns-clause-body
returns-clause-body c =
    subst (IsBody c.args.reverse.now c.args.sources.now c.args.header) (sym c.in_ok-push.ensures.items)
    (body_by c.args.reverse.now c.args.sources.now c.args.header c.in_ok-body.body.items c.in_ok-body.ensures.list
    c.requires.header)
