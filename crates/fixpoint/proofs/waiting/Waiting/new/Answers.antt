-- No place stands in a list, and none waits.
use Rattle.std.specs.Prelude.{◌≡◌, false, length, replicate}
use Rattle.std.proofs.Common.{arith, rules}
use Rattle.fixpoint.proofs.Queuing.{queue_new}
use Rattle.fixpoint.proofs.waiting.Waiting.new.Goals as goal

pub invariant_of-result : goal.invariant_of-result
invariant_of-result c =
    let fresh : c.in_ok-marks.marks.items ≡ replicate (length c.args.depths.items) false = search rules in
    queue_new c.args.depths.items c.args.lists _ c.requires.some c.requires.low c.in_ok-new.field-0 c.in_ok-new.ensures
    (omega arith) c.in_ok-marks.marks.items fresh
