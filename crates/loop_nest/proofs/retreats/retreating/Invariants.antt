use Rattle.std.proofs.Common.{ℕ, ◌≤◌, take}
use Rattle.step_table.specs.Numbers.{number_of}
use Rattle.loop_nest.proofs.Choosing.{AreChosen}
use Rattle.loop_nest.proofs.retreats.retreating.Given as goal

abbrev pub invariant-loop-position : goal.invariant-loop-position
invariant-loop-position l =
    AreChosen (λ (x : ℕ). number_of l.ranks x ≤ number_of l.ranks l.header) (take l.position-index l.positions) l.list
