use Rattle.std.proofs.Common.{ℕ, take}
use Rattle.step_table.specs.Search.{IsSeen}
use Rattle.loop_nest.proofs.Choosing.{AreChosen}
use Rattle.loop_nest.proofs.removal.unseen_of.Given as goal

abbrev pub invariant-loop-position : goal.invariant-loop-position
invariant-loop-position l = AreChosen (λ (x : ℕ). IsSeen l.seen x → ⊥) (take l.position-index l.positions) l.list
