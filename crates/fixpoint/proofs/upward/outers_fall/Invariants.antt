-- The outer scopes so far are lesser.
use Rattle.std.proofs.Common.{◌<◌}
use Rattle.flow_net.specs.declared.net.LoopInst.{LoopInst}
use Rattle.fixpoint.specs.Upward.{EachItem}
use Rattle.fixpoint.proofs.upward.outers_fall.Given as goal

abbrev pub invariant-loop-index : goal.invariant-loop-index
invariant-loop-index l = EachItem (λ scope (inst : LoopInst). inst.outer < scope) l.index l.loops
