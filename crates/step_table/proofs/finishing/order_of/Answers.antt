use Rattle.std.proofs.Common.{arith}
use Rattle.step_table.proofs.Leaving.{depth_end, depth_start}
use Rattle.step_table.proofs.finishing.order_of.Goals as goal

pub loop-start-init : goal.loop-start-init
loop-start-init c = record {
  depth = depth_start c.args.table.now c.new-order.result.items c.in_ok-seen.seen.items c.in_ok-ahead.ahead.items
      c.new-order.ensures.items (c.in_ok-seen.ensures.items_if_clones_equal (λ x e. e)) c.in_ok-ahead.ensures;
  seen = λ x less. absurd (omega (arith, less));
}

pub returns : goal.returns
returns c =
    depth_end c.args.table.now c.loop-start.order.items c.loop-start.seen.items c.loop-start.ahead.items
    c.loop-start.invariant.depth
    (λ x inside. c.loop-start.invariant.seen x (omega (arith, inside, c.loop-start-test.false, c.loop-start.auto)))
