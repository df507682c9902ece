use Rattle.std.proofs.Common.{◌≡◌, ℕ, ◌-◌, ◌*◌}
use Rattle.ipet_program.specs.Sums.{sum_to}
use Rattle.nest_solver.specs.Counted.{bit, enters}
use Rattle.nest_solver.specs.Nets.{entry}
use Rattle.nest_solver.specs.Plain.{plain}
use Rattle.nest_solver.specs.Shape.{IsUpTo}
use Rattle.std.proofs.Common.{length}
use Rattle.nest_solver.proofs.entered.note_entered.Given as goal

abbrev pub invariant-loop-arc : goal.invariant-loop-arc
invariant-loop-arc l = (k : ℕ) → IsUpTo (length l.net.loops) k →
    entry l.often k ≡ sum_to (l.arc - 1) (λ i. bit (enters (plain l.net l.tables) k i) * entry l.counts i)
