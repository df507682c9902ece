-- Each put takes a front of the rest.
use Rattle.std.proofs.Common.{arith}
use Rattle.wcet_io.proofs.Delivered.{delivered_more}
use Rattle.wcet_io.proofs.delivery.deliver.Goals as goal

pub loop-rest-preserved : goal.loop-rest-preserved
loop-rest-preserved g c =
    let put = c.in_ok-count.ensures in
    let before = c.loop-rest.invariant in
    let now = g.O.Sink.held c.put.new.self in (
      delivered_more {after = now} c.in_ok-count.count before.0 put.bound put.bytes
          c.split_at.ensures.back,
      omega (arith, before.1, put.cause.later),
    )
