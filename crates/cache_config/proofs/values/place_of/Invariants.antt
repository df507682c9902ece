use Rattle.std.proofs.Common.{◌≡◌, drop, map}
use Rattle.cache_config.specs.Values.{place_from}
use Rattle.cache_config.proofs.values.place_of.Given as goal

abbrev pub invariant-loop-at : goal.invariant-loop-at
invariant-loop-at l =
    place_from l.at (map (λ w. w.now) (drop l.at l.words)) l.word ≡ place_from 0 (map (λ w. w.now) l.words) l.word
