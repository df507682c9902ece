use Rattle.std.proofs.Common.{take}
use Rattle.loop_nest.specs.Bodies.{AreNoted}
use Rattle.loop_nest.proofs.bodies.note.Given as goal

abbrev pub invariant-loop-position : goal.invariant-loop-position
invariant-loop-position l = AreNoted (take l.position-index l.body) l.ranks l.header l.initial.innermost l.innermost
