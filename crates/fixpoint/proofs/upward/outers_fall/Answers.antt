-- Each loop instance is looked at.
use Rattle.std.proofs.Common.{◌≡◌, ℕ, ◌<◌, length, subst, arith}
use Rattle.flow_net.specs.declared.net.LoopInst.{LoopInst}
use Rattle.fixpoint.specs.Upward.{EachItem}
use Rattle.fixpoint.proofs.UpwardNets.{each-next, each-none}
use Rattle.fixpoint.proofs.upward.outers_fall.Goals as goal

pub loop-index-init : goal.loop-index-init
loop-index-init c = each-none (λ scope (inst : LoopInst). inst.outer < scope) c.args.loops.now

pub loop-index-preserved : goal.loop-index-preserved
loop-index-preserved c =
    each-next (λ scope (inst : LoopInst). inst.outer < scope) c.args.loops.now c.loop-index.index
    (record { header = 0; bound = 0; outer = 0 }) c.loop-index-test.true c.loop-index.invariant (omega arith)

pub returns : goal.returns
returns c = record {
  fall =
      let all : c.loop-index.index ≡ length c.args.loops.now = omega arith in
      subst (λ (n : ℕ). EachItem (λ scope (inst : LoopInst). inst.outer < scope) n c.args.loops.now) all
      c.loop-index.invariant;
}
