use Rattle.std.proofs.Common.{◌≡◌, ◌++◌, map, take}
use Rattle.call_contexts.specs.Counting.{steps_in}
use Rattle.call_contexts.specs.Expansion.{context_of}
use Rattle.call_contexts.proofs.contexts.add_made.Given as goal

abbrev pub invariant-loop-called : goal.invariant-loop-called
invariant-loop-called l = record {
  contexts : l.contexts.keys ≡ l.initial.contexts.keys ++ map (context_of l.parent) (take l.called-index l.calls);
  functions : l.functions.items ≡ l.initial.functions.items ++ steps_in (take l.called-index l.calls);
}
