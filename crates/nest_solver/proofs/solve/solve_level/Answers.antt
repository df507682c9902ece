use Rattle.std.proofs.Common.{subst, arith}
use Rattle.nest_solver.specs.Levels.{AreLevels}
use Rattle.nest_solver.specs.Nets.{entry, round_by}
use Rattle.nest_solver.specs.Plain.{plain}
use Rattle.nest_solver.proofs.Levels.{levels-fit, levels-more, levels-roomy}
use Rattle.nest_solver.proofs.NetShape.{round-up}
use Rattle.nest_solver.proofs.Plains.{tables-nest}
use Rattle.nest_solver.proofs.solve.solve_level.Goals as goal

pub level-requires-clause-roomy : goal.level-requires-clause-roomy
level-requires-clause-roomy c =
    let s = plain c.args.net.now c.args.tables.now in
    levels-roomy s c.requires.levels.price (entry c.args.weights.now) (entry c.args.turns.now) c.args.depth
    (tables-nest c.args.net.now c.args.tables.now c.requires.nested c.requires.tables)
    (subst (AreLevels s c.requires.levels.price (entry c.args.weights.now) (entry c.args.turns.now)) (omega arith)
    c.requires.levels.levels)

pub add_turns-requires-clause-fits : goal.add_turns-requires-clause-fits
add_turns-requires-clause-fits c i u =
    let net = c.args.net.now in
    let tables = c.args.tables.now in
    let s = plain net tables in
    levels-fit s c.requires.levels.price (entry c.args.weights.now) (entry c.args.turns.now) (entry c.note_turns.new.turns)
    (round_by net (entry c.level.new.up)) (entry c.level.new.best) (entry c.level.new.choice) c.args.depth i
    (tables-nest net tables c.requires.nested c.requires.tables) c.requires.depth
    (subst (AreLevels s c.requires.levels.price (entry c.args.weights.now) (entry c.args.turns.now)) (omega arith)
    c.requires.levels.levels)
    (round-up net (entry tables.scopes.depths.items) (entry tables.headed.items) c.args.depth (entry c.level.new.up)
    c.requires.nested c.requires.tables.scopes.depths c.level.ensures.up)
    c.level.ensures.swept c.note_turns.ensures.turns u

pub returns : goal.returns
returns c = record {
  levels = λ price were.
      let net = c.args.net.now in
      let tables = c.args.tables.now in
      let s = plain net tables in
      levels-more s price (entry c.args.weights.now) (entry c.add_turns.new.weights) (entry c.args.turns.now)
      (entry c.note_turns.new.turns) (round_by net (entry c.level.new.up)) (entry c.level.new.best)
      (entry c.level.new.choice) c.args.depth (tables-nest net tables c.requires.nested c.requires.tables)
      (subst (AreLevels s price (entry c.args.weights.now) (entry c.args.turns.now)) (omega arith) were)
      (round-up net (entry tables.scopes.depths.items) (entry tables.headed.items) c.args.depth (entry c.level.new.up)
      c.requires.nested c.requires.tables.scopes.depths c.level.ensures.up)
      c.level.ensures.swept c.note_turns.ensures.turns c.add_turns.ensures.weights;
}
