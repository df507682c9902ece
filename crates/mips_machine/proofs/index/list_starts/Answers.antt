-- One more region adds its start.
use Rattle.std.proofs.Common.{◌<◌, length, arith}
use Rattle.mips_machine.proofs.IndexLemmas.{starts_of-more}
use Rattle.mips_machine.proofs.index.list_starts.Goals as goal

pub loop-number-preserved : goal.loop-number-preserved
loop-number-preserved c =
    let regions = c.args.regions.now in
    let place = c.loop-number.number in
    let inside : place < length regions = omega arith in
    rw (starts_of-more regions place c.index-regions-number.result inside c.index-regions-number.is)
    (cc (c.loop-number.invariant, c.in_ok-push.ensures.items, c.start-address.ensures))
