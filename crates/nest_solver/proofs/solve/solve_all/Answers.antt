use Rattle.std.proofs.Common.{ap, arith}
use Rattle.nest_solver.specs.Nets.{entry, round_by}
use Rattle.nest_solver.specs.Plain.{plain}
use Rattle.nest_solver.proofs.Forward.{entry-live}
use Rattle.nest_solver.proofs.Levels.{levels-light, levels-roomy_all}
use Rattle.nest_solver.proofs.Plains.{tables-nest}
use Rattle.nest_solver.proofs.Sources.{target-within}
use Rattle.nest_solver.proofs.solve.solve_all.Goals as goal

pub level-requires-clause-roomy : goal.level-requires-clause-roomy
level-requires-clause-roomy c =
    levels-roomy_all (plain c.args.net.now c.args.tables.now) c.requires.levels.price (entry c.solve.new.weights)
    (entry c.solve.new.turns) 0 (tables-nest c.args.net.now c.args.tables.now c.requires.nested c.requires.tables)
    (c.solve.ensures.levels c.requires.levels.price c.requires.levels.levels)

pub bounds-best-target : goal.bounds-best-target
bounds-best-target c =
    let nest = tables-nest c.args.net.now c.args.tables.now c.requires.nested c.requires.tables in
    omega (
      arith,
      c.target.ensures,
      target-within c.args.net.now c.requires.nested 1 (omega (arith, nest.some)),
      c.requires.best,
      c.level.auto.best,
    )

pub overflow_add-result : goal.overflow_add-result
overflow_add-result c =
    let net = c.args.net.now in
    let tables = c.args.tables.now in
    let nest = tables-nest net tables c.requires.nested c.requires.tables in
    omega (
      arith,
      levels-light (plain net tables) c.requires.levels.price (entry c.solve.new.weights) (entry c.solve.new.turns) 1 nest
          (c.solve.ensures.levels c.requires.levels.price c.requires.levels.levels) (omega (arith, nest.some)),
      c.level.ensures.small c.target.result,
    )

pub overflow_sub-result : goal.overflow_sub-result
overflow_sub-result c =
    let net = c.args.net.now in
    let tables = c.args.tables.now in
    let nest = tables-nest net tables c.requires.nested c.requires.tables in
    omega (
      arith,
      ap (entry c.level.new.best) c.target.ensures,
      entry-live (plain net tables) (round_by net (entry c.level.new.up)) (entry c.solve.new.weights)
          (entry c.level.new.best) (entry c.level.new.choice) nest c.level.ensures.swept,
    )
