-- One number more.
use Rattle.std.proofs.Common.{add-one, arith}
use Rattle.link_table.proofs.Ringing.{range-more}
use Rattle.link_table.proofs.rings.numbers.Goals as goal

pub loop-number-preserved : goal.loop-number-preserved
loop-number-preserved c =
    let more = range-more 0 c.loop-number.number c.loop-number.number (omega arith) in
    rw (add-one, more, ← c.loop-number.invariant) c.in_ok-push.ensures.items
