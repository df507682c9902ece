use Rattle.std.proofs.Common.{Some, sym}
use Rattle.cache_config.specs.Faults.{place_rule}
use Rattle.cache_config.specs.Keys.{region_tables}
use Rattle.cache_config.proofs.EmptyLemmas.{free_at}
use Rattle.cache_config.proofs.RegionLoop.{more_read}
use Rattle.cache_config.proofs.read.read_regions.Goals as goal

pub unreachable-requires : goal.unreachable-requires
unreachable-requires c =
    let free = free_at region_tables (place_rule (Some c.args.stack)) c.args.values.now c.loop-at.at c.index-values-at.result c.requires.few c.loop-at-test.true
    (sym c.index-values-at.is) c.loop-at.invariant.left in
    c.in_default.ensures.none c.loop-at.at free.shape free.joint

pub loop-at-preserved : goal.loop-at-preserved
loop-at-preserved c =
    rw c.in_ok-push.ensures.ok
    (more_read c.args.stack c.args.values.now c.loop-at.at c.index-values-at.result c.loop-at.regions c.in-Some.region c.requires.few
    c.loop-at-test.true (sym c.index-values-at.is) c.loop-at.invariant c.in-Some.ensures.span c.in-Some.ensures.placed)
