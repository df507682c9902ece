use Rattle.std.proofs.Common.{ℕ, ◌-◌, List}
use Rattle.nest_solver.specs.Begun.{IsReady}
use Rattle.nest_solver.specs.Nets.{entry}
use Rattle.nest_solver.specs.Plain.{plain}
use Rattle.nest_solver.proofs.put_back.put_back.Given as goal

abbrev pub invariant-loop-depth : goal.invariant-loop-depth
invariant-loop-depth l = (price : ℕ → ℕ) (path : List ℕ) (total : ℕ) →
    IsReady (plain l.net l.tables) price (entry l.weights) (entry l.turns) path total 0 (entry l.fn.counts) →
    IsReady (plain l.net l.tables) price (entry l.weights) (entry l.turns) path total (l.depth - 1) (entry l.counts)
