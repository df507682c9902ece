use Rattle.std.proofs.Common.{All, subst, sym, take}
use Rattle.unit_graph.specs.Firsts.{Follows, IsAmong}
use Rattle.step_table.proofs.Seen.{one_more}
use Rattle.unit_graph.proofs.Foremost.{Follows-more, IsAmong-more}
use Rattle.unit_graph.proofs.first.first_fault.Goals as goal

pub loop-content-preserved : goal.loop-content-preserved
loop-content-preserved c =
    let first = c.loop-content.first in
    let result = c.first_of-first.result in
    let before = take c.loop-content.content-index c.args.contents.now in
    let one = c.content-item.result in
    let more = one_more c.args.contents.now c.loop-content.content-index one c.loop-content-test.true c.content-item.is in
    let e = c.first_of-first.ensures in
    record {
      among = subst (IsAmong result) (sym more)
          (IsAmong-more first result before one c.loop-content.invariant.among e.either);
      first = subst (All (Follows result)) (sym more)
          (Follows-more first result before one c.loop-content.invariant.first e.old e.new);
    }
