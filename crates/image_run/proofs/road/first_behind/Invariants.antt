-- No arc so far goes there.
use Rattle.std.proofs.Common.{All, take}
use Rattle.mips_decode.specs.Transfer.{linking_of}
use Rattle.image_run.specs.Road.{IsNoWay}
use Rattle.image_run.proofs.road.first_behind.Given as goal

abbrev pub invariant-loop-number : goal.invariant-loop-number
invariant-loop-number l =
    All (IsNoWay l.net (linking_of l.link l.from.address l.next) l.from.context l.next) (take l.number-index l.numbers)
