-- The loop instances of the contexts so far are counted.
use Rattle.std.proofs.Common.{◌≡◌, Some, slice_get}
use Rattle.call_contexts.specs.Instances.{AreFirsts}
use Rattle.call_contexts.proofs.scopes.firsts_of.Given as goal

abbrev pub invariant-loop-function : goal.invariant-loop-function
invariant-loop-function l =
    AreFirsts l.graphs.graphs l.nests-2.nests l.layout l.function-index l.firsts.items
    × (slice_get l.firsts.items l.function-index ≡ Some l.next)
