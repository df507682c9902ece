use Rattle.nest_solver.specs.Nets.{entry, round_by}
use Rattle.nest_solver.proofs.NetShape.{round-up}
use Rattle.nest_solver.proofs.solve.level.Goals as goal

pub sweep-requires-clause-fits : goal.sweep-requires-clause-fits
sweep-requires-clause-fits c =
    let net = c.args.net.now in
    let tables = c.args.tables.now in
    c.requires.roomy.room (round_by net (entry c.up_of.new.up))
    (round-up net (entry tables.scopes.depths.items) (entry tables.headed.items) c.args.depth (entry c.up_of.new.up)
    c.requires.nested c.requires.tables.scopes.depths c.up_of.ensures.up)
