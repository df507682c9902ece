use Rattle.std.proofs.Common.{◌≡◌, ◌++◌, map, take}
use Rattle.cache_config.specs.Faults.{printed}
use Rattle.cache_config.proofs.paths.path_of.Given as goal

abbrev pub invariant-loop-byte : goal.invariant-loop-byte
invariant-loop-byte l = l.path.items ≡ l.fn.prefix ++ map printed (take l.byte-index l.byte-items)
