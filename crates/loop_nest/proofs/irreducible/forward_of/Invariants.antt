use Rattle.loop_nest.proofs.Cycling.{IsForwarding}
use Rattle.loop_nest.proofs.irreducible.forward_of.Given as goal

abbrev pub invariant-loop-from : goal.invariant-loop-from
invariant-loop-from l = IsForwarding l.table l.sources l.from l.forward.items
