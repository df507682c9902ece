use Rattle.std.proofs.Common.{◌+◌, subst, sym, arith}
use Rattle.step_table.specs.Table.{IsReverse}
use Rattle.loop_nest.proofs.Cycling.{forwarding_end, forwarding_more, IsForwarding}
use Rattle.loop_nest.proofs.irreducible.forward_of.Goals as goal

pub loop-from-preserved : goal.loop-from-preserved
loop-from-preserved c =
    subst (IsForwarding c.args.table.now c.args.sources.now (c.loop-from.from + 1)) (sym c.in_ok-push.ensures.items)
    (forwarding_more c.args.table.now c.args.sources.now c.deref.result.now c.loop-from.from c.loop-from.forward.items
    c.steps_at.result.now c.steps_at-in-loop-from.result.now c.in_ok-ahead.ahead
    (subst (IsReverse c.args.sources.now) (sym c.deref.ensures.value) c.in_ok-backs.ensures.reverse)
    c.loop-from.invariant c.steps_at.ensures.there c.steps_at-in-loop-from.ensures.there c.in_ok-ahead.ensures)

pub returns : goal.returns
returns c =
    forwarding_end c.args.table.now c.args.sources.now c.loop-from.from c.loop-from.forward.items
    (omega (arith, c.loop-from-test.false, c.loop-from.auto)) c.loop-from.invariant
