use Rattle.loop_nest.specs.Arcs.{AreRetreatsTo}
use Rattle.loop_nest.proofs.retreats.retreats_of.Given as goal

abbrev pub invariant-loop-header : goal.invariant-loop-header
invariant-loop-header l = AreRetreatsTo l.reverse l.ranks l.header l.sources.items
