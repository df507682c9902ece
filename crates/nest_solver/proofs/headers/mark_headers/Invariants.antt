use Rattle.nest_solver.specs.Nets.{entry}
use Rattle.nest_solver.proofs.Heading.{AreMarked}
use Rattle.nest_solver.proofs.headers.mark_headers.Given as goal

abbrev pub invariant-loop-scope : goal.invariant-loop-scope
invariant-loop-scope l = AreMarked l.net (entry l.headed) l.scope
