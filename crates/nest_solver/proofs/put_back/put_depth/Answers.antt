-- The level is swept again, and its turns are put back.
use Rattle.std.proofs.Common.{◌-◌, arith}
use Rattle.nest_solver.specs.Nets.{entry, round_by, value_at_end}
use Rattle.nest_solver.specs.Plain.{plain}
use Rattle.nest_solver.proofs.Levels.{levels-roomy_all}
use Rattle.nest_solver.proofs.NetShape.{round-up}
use Rattle.nest_solver.proofs.Plains.{tables-nest}
use Rattle.nest_solver.proofs.Turning.{begun-from, entered-small}
use Rattle.nest_solver.proofs.put_back.put_depth.Goals as goal

pub level-requires-clause-roomy : goal.level-requires-clause-roomy
level-requires-clause-roomy c =
    levels-roomy_all (plain c.args.net.now c.args.tables.now) c.requires.ready.price (entry c.args.weights.now)
    (entry c.args.turns.now) c.args.depth
    (tables-nest c.args.net.now c.args.tables.now c.requires.nested c.requires.tables) c.requires.ready.ready.levels

pub note_entered-requires-clause-room : goal.note_entered-requires-clause-room
note_entered-requires-clause-room c l u =
    let s = plain c.args.net.now c.args.tables.now in
    let ready = c.requires.ready.ready in
    omega (
      arith,
      entered-small s (value_at_end s c.requires.ready.price) (entry c.args.turns.now) c.requires.ready.path
          c.requires.ready.total (c.args.depth - 1) l (entry c.args.counts.now)
          (tables-nest c.args.net.now c.args.tables.now c.requires.nested c.requires.tables) ready.settled ready.counted u,
      ready.settled.low,
    )

pub put_level-requires-clause-begun : goal.put_level-requires-clause-begun
put_level-requires-clause-begun c =
    let net = c.args.net.now in
    let tables = c.args.tables.now in
    let s = plain net tables in
    let ready = c.requires.ready in
    record {
      value = value_at_end s ready.price;
      turns = entry c.args.turns.now;
      path = ready.path;
      total = ready.total;
      begun = begun-from s ready.price (entry c.args.weights.now) (entry c.args.turns.now) ready.path ready.total
          c.args.depth (round_by net (entry c.level.new.up)) (entry c.level.new.best) (entry c.level.new.choice)
          (entry c.args.counts.now) c.requires.low ready.ready
          (round-up net (entry tables.scopes.depths.items) (entry tables.headed.items) c.args.depth
          (entry c.level.new.up) c.requires.nested c.requires.tables.scopes.depths c.level.ensures.up)
          c.level.ensures.swept;
    }

pub returns : goal.returns
returns c =
    let net = c.args.net.now in
    let tables = c.args.tables.now in
    let s = plain net tables in
    record {
      ready = λ price path total ready. record {
        levels = ready.levels;
        settled = ready.settled;
        counted = c.put_level.ensures.counted (value_at_end s price) (entry c.args.turns.now) path total
            (begun-from s price (entry c.args.weights.now) (entry c.args.turns.now) path total c.args.depth
            (round_by net (entry c.level.new.up)) (entry c.level.new.best) (entry c.level.new.choice)
            (entry c.args.counts.now) c.requires.low ready
            (round-up net (entry tables.scopes.depths.items) (entry tables.headed.items) c.args.depth
            (entry c.level.new.up) c.requires.nested c.requires.tables.scopes.depths c.level.ensures.up)
            c.level.ensures.swept);
      };
    }
