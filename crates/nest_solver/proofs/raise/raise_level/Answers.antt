use Rattle.std.proofs.Common.{arith}
use Rattle.nest_solver.specs.Nets.{entry, round_by}
use Rattle.nest_solver.specs.Plain.{plain}
use Rattle.nest_solver.proofs.Levels.{levels-roomy_all}
use Rattle.nest_solver.proofs.NetShape.{round-up}
use Rattle.nest_solver.proofs.Plains.{tables-nest}
use Rattle.nest_solver.proofs.WorthLevels.{level-turned, worths-next}
use Rattle.nest_solver.proofs.raise.raise_level.Goals as goal

pub level-requires-clause-roomy : goal.level-requires-clause-roomy
level-requires-clause-roomy c =
    levels-roomy_all (plain c.args.net.now c.args.tables.now) c.requires.levels.price (entry c.args.weights.now)
    (entry c.args.turns.now) c.args.depth
    (tables-nest c.args.net.now c.args.tables.now c.requires.nested c.requires.tables) c.requires.levels.levels

pub raise-requires-clause-level : goal.raise-requires-clause-level
raise-requires-clause-level c =
    let net = c.args.net.now in
    let tables = c.args.tables.now in
    record {
      depth = c.args.depth;
      are = c.level.ensures.up;
      turned = level-turned (plain net tables) c.requires.levels.price (entry c.args.weights.now) (entry c.args.turns.now)
          (round_by net (entry c.level.new.up)) (entry c.level.new.best) (entry c.level.new.choice) c.args.depth
          (tables-nest net tables c.requires.nested c.requires.tables) c.requires.depth c.requires.levels.levels
          (round-up net (entry tables.scopes.depths.items) (entry tables.headed.items) c.args.depth (entry c.level.new.up)
          c.requires.nested c.requires.tables.scopes.depths c.level.ensures.up)
          c.level.ensures.swept;
    }

pub returns-clause-worths : goal.returns-clause-worths
returns-clause-worths c price total levels were =
    let net = c.args.net.now in
    let tables = c.args.tables.now in
    worths-next (plain net tables) price (entry c.args.weights.now) (entry c.args.turns.now)
    (round_by net (entry c.level.new.up)) (entry c.level.new.best) (entry c.level.new.choice) (entry c.args.worths.now)
    (entry c.raise.new.worths) c.args.depth total (tables-nest net tables c.requires.nested c.requires.tables)
    c.requires.depth levels
    (round-up net (entry tables.scopes.depths.items) (entry tables.headed.items) c.args.depth (entry c.level.new.up)
    c.requires.nested c.requires.tables.scopes.depths c.level.ensures.up)
    c.level.ensures.swept (λ p. omega (arith, c.level.ensures.small p)) c.raise.ensures.raised were
