use Rattle.std.proofs.Common.{arith}
use Rattle.nest_solver.proofs.Entering.{extra-read}
use Rattle.nest_solver.proofs.turns.extra_of.Goals as goal

pub overflow_mul-result : goal.overflow_mul-result
overflow_mul-result c =
    omega (
      arith,
      c.requires.fits,
      extra-read c.args.net.now c.args.tables.now c.args.depth c.args.arc c.target.result c.index-scope.result.now
          c.index-2.result.now c.bound.result c.from.result c.index.result.now c.args.turns.now c.requires.nested
          c.requires.tables c.requires.arc c.target.ensures c.index-scope.ensures c.if-scope-eq0.false c.index.ensures
          c.if-index.false c.index-2.ensures c.if-index-depth.false c.bound.ensures c.from.ensures,
    )

pub returns : goal.returns
returns c = record {
  extra = extra-read c.args.net.now c.args.tables.now c.args.depth c.args.arc c.target.result c.index-scope.result.now
      c.index-2.result.now c.bound.result c.from.result c.index.result.now c.args.turns.now c.requires.nested
      c.requires.tables c.requires.arc c.target.ensures c.index-scope.ensures c.if-scope-eq0.false c.index.ensures
      c.if-index.false c.index-2.ensures c.if-index-depth.false c.bound.ensures c.from.ensures;
}
