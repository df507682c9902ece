use Rattle.std.proofs.Common.{arith}
use Rattle.step_table.proofs.Reversing.{reverse_within, turning_end, turning_more}
use Rattle.step_table.proofs.table.turn_round.Goals as goal

pub loop-from-init : goal.loop-from-init
loop-from-init c = record {
  count = c.requires.count;
  back = λ from to less step. absurd (omega arith);
  only = λ from to step. absurd (c.requires.empty from to step);
}

pub loop-from-preserved : goal.loop-from-preserved
loop-from-preserved c =
    turning_more c.args.table.now c.loop-from.from c.loop-from.lists c.join_all.new.lists c.steps_at.result.now
    c.steps_at.ensures.there c.loop-from.invariant c.in_ok-join_all.ensures

pub returns-clause-reverse : goal.returns-clause-reverse
returns-clause-reverse c =
    turning_end c.args.table.now c.loop-from.from c.loop-from.lists (λ h. omega (arith, c.loop-from-test.false))
    c.loop-from.invariant

pub returns-clause-within : goal.returns-clause-within
returns-clause-within c =
    reverse_within c.args.table.now c.loop-from.lists
    (turning_end c.args.table.now c.loop-from.from c.loop-from.lists (λ h. omega (arith, c.loop-from-test.false))
    c.loop-from.invariant)
