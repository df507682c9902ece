use Rattle.std.proofs.Common.{◌≡◌, map, drop}
use Rattle.cache_config.specs.Faults.{is_known}
use Rattle.cache_config.specs.Rows.{row_of}
use Rattle.cache_config.proofs.checks.is_known.Given as goal

abbrev pub invariant-loop-key : goal.invariant-loop-key
invariant-loop-key l = is_known (map row_of (drop l.key-index l.keys)) l.name ≡ is_known (map row_of l.keys) l.name
