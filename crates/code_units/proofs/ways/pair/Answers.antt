use Rattle.std.proofs.Common.{arith}
use Rattle.code_units.proofs.Pairs.{IsSetOf-falling, IsSetOf-rising}
use Rattle.code_units.proofs.ways.pair.Goals as goal

pub returns-then-first-second : goal.returns-then-first-second
returns-then-first-second c = IsSetOf-rising c.args.first c.args.second (omega arith)

pub returns-then-second-first : goal.returns-then-second-first
returns-then-second-first c = IsSetOf-falling c.args.first c.args.second (omega arith)
