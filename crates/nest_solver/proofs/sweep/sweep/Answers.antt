use Rattle.ipet_program.specs.Programs.{crude_limit}
use Rattle.nest_solver.specs.Nets.{entry, round_by}
use Rattle.nest_solver.specs.Plain.{plain}
use Rattle.nest_solver.proofs.Sweeping.{so_far-small}
use Rattle.nest_solver.proofs.sweep.sweep.Goals as goal

pub returns-clause-small : goal.returns-clause-small
returns-clause-small c p =
    so_far-small (plain c.args.net.now c.args.tables.now) c.args.depth (round_by c.args.net.now (entry c.args.up.now))
    (entry c.args.weights.now) (entry c.loop-at.best) (entry c.loop-at.choice)
    (entry c.args.tables.now.order.positions.items) crude_limit c.loop-at.at p c.loop-at.invariant
