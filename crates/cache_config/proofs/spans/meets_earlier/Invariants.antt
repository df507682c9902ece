use Rattle.std.proofs.Common.{◌≡◌, map, drop}
use Rattle.std.specs.List.{list_any}
use Rattle.toml.specs.View.{view}
use Rattle.cache_config.specs.Spans.{meets_some, span_of}
use Rattle.cache_config.proofs.spans.meets_earlier.Given as goal

abbrev pub invariant-loop-value : goal.invariant-loop-value
invariant-loop-value l =
    list_any (λ d. meets_some l.span (span_of d)) (map view (drop l.value-index l.earlier))
    ≡ list_any (λ d. meets_some l.span (span_of d)) (map view l.earlier)
