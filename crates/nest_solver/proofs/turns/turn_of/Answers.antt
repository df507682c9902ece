use Rattle.std.proofs.Common.{arith}
use Rattle.nest_solver.proofs.Heading.{header-up}
use Rattle.nest_solver.proofs.turns.turn_of.Goals as goal

pub offset_bounds-best-header : goal.offset_bounds-best-header
offset_bounds-best-header c =
    omega (
      arith,
      c.header.ensures,
      header-up c.args.net.now c.requires.nested c.args.scope c.requires.scope,
      c.requires.few.places,
    )

pub bounds-best-header : goal.bounds-best-header
bounds-best-header c =
    omega (
      arith,
      c.header.ensures,
      header-up c.args.net.now c.requires.nested c.args.scope c.requires.scope,
      c.requires.best,
    )
