use Rattle.std.proofs.Common.{◌≡◌, drop}
use Rattle.std.specs.Prelude.{slice_index_or}
use Rattle.cache_config.proofs.StageLemmas.{stages}
use Rattle.cache_config.proofs.costs.latency_after.Given as goal

abbrev pub invariant-loop-level : goal.invariant-loop-level
invariant-loop-level l =
    slice_index_or (stages l.side l.memory (drop l.level-index l.levels)) l.before 0
    ≡ slice_index_or (stages l.side l.memory l.levels) l.initial.before 0
