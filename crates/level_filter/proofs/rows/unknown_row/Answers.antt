-- The next entry stands behind those so far.
use Rattle.flow_net.specs.declared.letter.Letter.TheVariants.{Always}
use Rattle.level_filter.proofs.UnknownRows.{unknown-next}
use Rattle.level_filter.proofs.rows.unknown_row.Goals as goal

pub loop-preserved : goal.loop-preserved
loop-preserved c =
    unknown-next c.args.caches c.loop.counter c.loop.letter c.letter_after-letter.result c.loop.row c.push.new.self
    c.loop-test.true c.in_ok-push.ensures.ok c.letter_after-letter.ensures c.loop.invariant
