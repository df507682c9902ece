-- The loops of the contexts so far have their instances.
use Rattle.call_contexts.specs.Instances.{AreInstances}
use Rattle.call_contexts.proofs.instances.all_instances.Given as goal

abbrev pub invariant-loop-number : goal.invariant-loop-number
invariant-loop-number l =
    AreInstances l.graphs-2.graphs l.nests-2.nests l.layout l.firsts l.outers l.number l.instances
