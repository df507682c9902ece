-- The cut is of another column, or it moves one end of the range.
use Rattle.std.proofs.Common.{arith}
use Rattle.ipet_program.proofs.RangeLemmas.{range-lower, range-other, range-upper}
use Rattle.ipet_program.proofs.split.narrowed.Goals as goal

pub returns-then-cut-column : goal.returns-then-cut-column
returns-then-cut-column c =
    λ program cuts is. range-other program cuts c.args.column c.args.range is c.args.cut c.if-cut-column.true

pub returns-then-cut : goal.returns-then-cut
returns-then-cut c =
    λ program cuts is. range-upper program cuts c.args.column c.args.range is c.args.cut c.min.result
    c.if-cut-column.false c.if-cut.true (omega arith)

pub returns : goal.returns
returns c =
    λ program cuts is. range-lower program cuts c.args.column c.args.range is c.args.cut c.max.result
    c.if-cut-column.false c.if-cut.false (omega (arith, c.max.ensures, c.saturating_add.ensures))
