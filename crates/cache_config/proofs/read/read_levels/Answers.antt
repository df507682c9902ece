use Rattle.std.proofs.Common.{ap, is_some, option_map, sym, ◌∙◌}
use Rattle.std.proofs.lemmas.Bool.{false≢true}
use Rattle.toml.specs.View.{view}
use Rattle.cache_config.specs.Caches.{cache}
use Rattle.cache_config.specs.Faults.{chain_rule}
use Rattle.cache_config.specs.Keys.{cache_tables}
use Rattle.cache_config.proofs.CacheLoop.{more_caches}
use Rattle.cache_config.proofs.EmptyLemmas.{free_at, shape-cache}
use Rattle.cache_config.proofs.read.read_levels.Goals as goal

pub unreachable-requires : goal.unreachable-requires
unreachable-requires c =
    let value = c.index-values-at.result in
    let free = free_at cache_tables chain_rule c.args.values.now c.loop-at.at value c.requires.few c.loop-at-test.true
    (sym c.index-values-at.is) c.loop-at.invariant.left in
    let some = shape-cache c.loop-at.at (view value) free.shape in
    absurd (false≢true (ap (λ o. is_some (option_map cache o)) (sym c.in_default.is) ∙ ap is_some c.cache_of.ensures ∙ some))

pub loop-at-preserved : goal.loop-at-preserved
loop-at-preserved c =
    rw c.in_ok-push.ensures.ok
    (more_caches c.args.values.now c.loop-at.at c.index-values-at.result c.loop-at.levels c.in-Some.level c.requires.few
    c.loop-at-test.true (sym c.index-values-at.is) c.loop-at.invariant (ap (option_map cache) (sym c.in-Some.is) ∙ c.cache_of.ensures))
