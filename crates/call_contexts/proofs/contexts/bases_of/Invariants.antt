use Rattle.call_contexts.proofs.Bases.{AreBasesTo}
use Rattle.call_contexts.proofs.contexts.bases_of.Given as goal

abbrev pub invariant-loop-function : goal.invariant-loop-function
invariant-loop-function l = AreBasesTo l.units l.functions l.function-index l.base l.bases.items
