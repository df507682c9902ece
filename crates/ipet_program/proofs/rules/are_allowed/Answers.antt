-- One more multiplier is allowed.
use Rattle.std.proofs.Common.{pos, take, sym, arith}
use Rattle.std.proofs.lemmas.List.{take_all}
use Rattle.std.proofs.lemmas.List.Elements.{All-more, All-same}
use Rattle.ipet_program.specs.Shown.{IsAllowed}
use Rattle.ipet_program.proofs.rules.are_allowed.Goals as goal

pub loop-weight-preserved : goal.loop-weight-preserved
loop-weight-preserved c =
    All-more (IsAllowed c.args.program.now c.args.cuts.now) c.args.weights.now c.loop-weight.weight-index
    (record { row = 0; times = pos 0 }) (omega arith) c.loop-weight.invariant c.if-not-is_allowed.ensures.allowed

pub returns-clause-allowed : goal.returns-clause-allowed
returns-clause-allowed c =
    All-same (IsAllowed c.args.program.now c.args.cuts.now) c.args.weights.now
    (take c.loop-weight.weight-index c.args.weights.now)
    (sym (take_all c.loop-weight.weight-index c.args.weights.now (omega arith))) c.loop-weight.invariant
