-- The net and its program are those that are written out.
use Rattle.std.proofs.Common.{refl, rules}
use Rattle.nest_solver.proofs.OnLiterals.{two_all}
use Rattle.nest_solver.proofs.tests.two_loops.Goals as goal

pub returns : goal.returns
returns c =
    two_all _ _ (search rules) (search rules) (search rules) (search rules) (search rules) refl (search rules)
    (search rules) (search rules) (search rules)
