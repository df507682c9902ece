-- Each multiplier before this one is allowed.
use Rattle.std.proofs.Common.{All, take}
use Rattle.ipet_program.specs.Shown.{IsAllowed}
use Rattle.ipet_program.proofs.rules.are_allowed.Given as goal

abbrev pub invariant-loop-weight : goal.invariant-loop-weight
invariant-loop-weight l = All (IsAllowed l.program l.cuts) (take l.weight-index l.weights)
