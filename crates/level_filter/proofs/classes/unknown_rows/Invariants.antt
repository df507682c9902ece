-- The rows so far, and those that are left.
use Rattle.std.proofs.Common.{◌≡◌, ◌++◌, drop}
use Rattle.level_filter.specs.Unknown.{unknown_rows}
use Rattle.level_filter.proofs.classes.unknown_rows.Given as goal

abbrev pub invariant-loop-access : goal.invariant-loop-access
invariant-loop-access l =
    l.rows ++ unknown_rows l.levels (drop l.access-index l.net.accesses) ≡ unknown_rows l.levels l.net.accesses
