-- The functions so far have their rounds.
use Rattle.call_contexts.specs.Instances.{AreRounds}
use Rattle.call_contexts.proofs.around.all_rounds.Given as goal

abbrev pub invariant-loop-position : goal.invariant-loop-position
invariant-loop-position l = AreRounds l.graphs-2.graphs l.nests-2.nests l.position l.rounds.items
