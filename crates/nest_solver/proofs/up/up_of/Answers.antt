use Rattle.std.proofs.Common.{set, arith}
use Rattle.nest_solver.specs.Nets.{entry}
use Rattle.nest_solver.proofs.Puts.{puts-set}
use Rattle.nest_solver.proofs.Upward.{right-none}
use Rattle.nest_solver.proofs.up.up_of.Goals as goal

pub loop-level-init : goal.loop-level-init
loop-level-init c = record {
  run = (puts-set c.args.up.now 0 0 (omega arith)).here;
  right = right-none c.args.net.now (entry c.args.scopes.now.depths.items) (entry (set c.args.up.now 0 0)) c.args.depth
      c.requires.scopes.depths;
}
