-- An instruction that is no load, store or stop works on registers alone.
use Rattle.std.proofs.Common.{◌≡◌, ◌∙◌, rules}
use Rattle.std.proofs.lemmas.Result.{MatchResult-weaker}
use Rattle.mips_decode.specs.Effect.{arithmetic, effect, on_registers}
use Rattle.mips_decode.specs.State.{State}
use Rattle.mips_machine.specs.Units.{state_of}
use Rattle.mips_machine.proofs.EffectLemmas.{effect-registers}
use Rattle.mips_machine.proofs.unit.execute.Goals as goal

pub returns-in_default : goal.returns-in_default
returns-in_default c =
    let plain : (s : State) → effect c.args.instr.now s ≡ on_registers s (arithmetic c.args.instr.now s.regs) =
    λ s. effect-registers c.args.instr.now s c.in_default.not-Load c.in_default.not-Store c.in_default.not-Stop in
    record {
      done = MatchResult-weaker c.arithmetic.result c.arithmetic.ensures.done
          (λ access h pc. plain (state_of c.args.regs.now pc c.args.memory.now) ∙ h pc c.args.memory.now) (λ kind h. h);
      trap = MatchResult-weaker c.arithmetic.result c.arithmetic.ensures.trap
          (λ access h. h) (λ kind h pc. plain (state_of c.args.regs.now pc c.args.memory.now) ∙ h pc c.args.memory.now);
      kept_regs = c.arithmetic.ensures.kept;
      kept_memory = search rules;
    }
