-- The headers so far have their own loops.
use Rattle.call_contexts.specs.Around.{AreOwn}
use Rattle.call_contexts.proofs.around.own_headers.Given as goal

abbrev pub invariant-loop-position : goal.invariant-loop-position
invariant-loop-position l = AreOwn l.units l.loops l.position l.numbers
