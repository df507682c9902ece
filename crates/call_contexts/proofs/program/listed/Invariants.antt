-- The contexts so far.
use Rattle.std.proofs.Common.{◌≡◌, take}
use Rattle.call_contexts.proofs.program.listed.Given as goal

abbrev pub invariant-loop-context : goal.invariant-loop-context
invariant-loop-context l = l.list ≡ take l.context-index l.contexts
