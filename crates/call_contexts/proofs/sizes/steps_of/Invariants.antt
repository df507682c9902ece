use Rattle.std.proofs.Common.{◌≡◌, take}
use Rattle.call_contexts.specs.Counting.{steps_of}
use Rattle.call_contexts.proofs.sizes.steps_of.Given as goal

abbrev pub invariant-loop-calls : goal.invariant-loop-calls
invariant-loop-calls l = l.table.items ≡ steps_of (take l.calls-index l.lists)
