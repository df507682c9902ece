-- The turns so far are those of the loop instances so far.
use Rattle.std.proofs.Common.{◌≡◌, ◌<◌, ◌^◌, ℕ, Bool, All, take}
use Rattle.flow_net.specs.declared.net.LoopInst.{LoopInst}
use Rattle.ipet_program.specs.Sums.{numbered}
use Rattle.ipet_program.specs.Tables.{TellsWithin, in_128, turns_round}
use Rattle.ipet_program.proofs.turns.turns_of.Given as goal

abbrev pub invariant-loop-inst : goal.invariant-loop-inst
invariant-loop-inst l = record {
  known : (within : ℕ → ℕ → Bool) → TellsWithin l.loops within →
      l.turns.items ≡ numbered (λ scope. in_128 (turns_round l.loops within scope)) l.inst-index;
  bounds : All (λ (inst : LoopInst). inst.bound < 2 ^ 32) (take l.inst-index l.loops);
}
