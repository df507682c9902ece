use Rattle.std.proofs.Common.{◌+◌, ◌-◌, arith}
use Rattle.nest_solver.specs.Nets.{entry}
use Rattle.nest_solver.proofs.Puts.{puts-set}
use Rattle.nest_solver.proofs.Sources.{left-more, left-pass, left-small, source-within}
use Rattle.nest_solver.proofs.arrivals.count_source.Goals as goal

pub overflow_add-left : goal.overflow_add-left
overflow_add-left c =
    omega (
      arith,
      left-small c.args.net.now (entry c.args.left.now) (c.args.arc - 1) c.source-from.result c.requires.left,
      c.requires.few.arcs,
      c.requires.arc,
    )

pub bounds-left-from-2 : goal.bounds-left-from-2
bounds-left-from-2 c =
    omega (
      arith,
      c.source-from.ensures,
      source-within c.args.net.now c.requires.nested c.args.arc c.requires.arc,
      c.requires.room,
    )

pub returns-then-from-eq0 : goal.returns-then-from-eq0
returns-then-from-eq0 c = record {
  left = left-pass c.args.net.now (entry c.args.left.now) c.args.arc c.source-from.result c.requires.arc.0
      c.requires.left c.source-from.ensures c.if-from-eq0.true;
}

pub returns : goal.returns
returns c = record {
  left = left-more c.args.net.now (entry c.args.left.now) _ c.args.arc c.source-from.result c.requires.arc.0
      c.requires.left c.source-from.ensures (omega (arith, c.if-from-eq0.false))
      (puts-set c.args.left.now c.source-from.result (entry c.args.left.now c.source-from.result + 1)
      (omega (
        arith,
        c.source-from.ensures,
        source-within c.args.net.now c.requires.nested c.args.arc c.requires.arc,
        c.requires.room,
      )));
}
