use Rattle.loop_nest.specs.Ranks.{ArePassed}
use Rattle.loop_nest.proofs.ranks.look_from.Given as goal

abbrev pub invariant-loop-at : goal.invariant-loop-at
invariant-loop-at l = ArePassed l.numbers l.positions l.at
