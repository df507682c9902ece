use Rattle.std.proofs.Common.{◌≡◌, length}
use Rattle.nest_solver.specs.Nets.{entry}
use Rattle.nest_solver.specs.Up.{AreRight}
use Rattle.nest_solver.proofs.up.up_of.Given as goal

abbrev pub invariant-loop-level : goal.invariant-loop-level
invariant-loop-level l = record {
  run : entry l.up 0 ≡ 0;
  right : AreRight l.net (entry l.scopes.depths.items) l.depth (entry l.up) l.level (length l.net.loops);
}
