use Rattle.std.proofs.Common.{◌≡◌, ◌+◌, ◌≤◌, drop, filter, length, map}
use Rattle.toml.specs.View.{view}
use Rattle.cache_config.specs.Caches.{is_of}
use Rattle.cache_config.proofs.caches.count_of.Given as goal

abbrev pub invariant-loop-value : goal.invariant-loop-value
invariant-loop-value l =
    (l.count ≤ l.value-index)
    × (l.count + length (filter (is_of l.side) (map view (drop l.value-index l.values))) ≡ length (filter (is_of l.side) (map view l.values)))
