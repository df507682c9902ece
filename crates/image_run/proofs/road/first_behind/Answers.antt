-- No arc that was looked at goes there.
use Rattle.std.proofs.Common.{take, sym, arith}
use Rattle.std.proofs.lemmas.List.{take_all}
use Rattle.std.proofs.lemmas.List.Elements.{All-more, All-same}
use Rattle.mips_decode.specs.Transfer.{linking_of}
use Rattle.image_run.specs.Road.{IsNoWay}
use Rattle.image_run.proofs.road.first_behind.Goals as goal

pub loop-number-preserved : goal.loop-number-preserved
loop-number-preserved c =
    All-more (IsNoWay c.args.net.now (linking_of c.args.link c.args.from.now.address c.args.next) c.args.from.now.context c.args.next)
    c.args.numbers.now c.loop-number.number-index 0 c.loop-number-test.true c.loop-number.invariant c.in_default.ensures.none

pub returns-clause-none : goal.returns-clause-none
returns-clause-none c =
    All-same (IsNoWay c.args.net.now (linking_of c.args.link c.args.from.now.address c.args.next) c.args.from.now.context c.args.next)
    c.args.numbers.now (take c.loop-number.number-index c.args.numbers.now)
    (sym (take_all c.loop-number.number-index c.args.numbers.now (omega arith))) c.loop-number.invariant
