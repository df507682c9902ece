use Rattle.std.proofs.Common.{◌≡◌, ◌<◌, ◌≤◌, length}
use Rattle.nest_solver.specs.Nets.{entry}
use Rattle.nest_solver.specs.Up.{AreRight}
use Rattle.nest_solver.proofs.up.up_level.Given as goal

abbrev pub invariant-loop-scope : goal.invariant-loop-scope
invariant-loop-scope l = record {
  within : l.scope ≤ length l.net.loops;
  level : 0 < l.scope → entry l.scopes.depths.items l.scope ≡ l.level;
  run : entry l.up 0 ≡ 0;
  right : AreRight l.net (entry l.scopes.depths.items) l.depth (entry l.up) l.level l.scope;
}

abbrev pub decreases-loop-scope : goal.decreases-loop-scope
decreases-loop-scope l = l.scope
