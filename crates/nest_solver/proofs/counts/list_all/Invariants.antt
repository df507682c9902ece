use Rattle.std.proofs.Common.{◌≡◌, ◌-◌}
use Rattle.nest_solver.specs.Answers.{counts_to}
use Rattle.nest_solver.specs.Nets.{entry}
use Rattle.nest_solver.proofs.counts.list_all.Given as goal

abbrev pub invariant-loop-column : goal.invariant-loop-column
invariant-loop-column l = l.listed ≡ counts_to (entry l.counts) (l.column - 1)
