-- The entries so far, and those that are left.
use Rattle.std.proofs.Common.{◌≡◌, ◌-◌, ◌++◌}
use Rattle.flow_net.specs.declared.letter.Letter.TheVariants.{Always}
use Rattle.level_filter.specs.Unknown.{unknown_from}
use Rattle.level_filter.proofs.rows.unknown_row.Given as goal

abbrev pub invariant-loop : goal.invariant-loop
invariant-loop l = l.row ++ unknown_from l.letter (l.caches - l.counter) ≡ unknown_from Always l.caches
