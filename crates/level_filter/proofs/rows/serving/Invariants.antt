-- The caches so far, and those that are left. No more are counted than were looked at.
use Rattle.std.proofs.Common.{◌≡◌, ◌+◌, ◌≤◌, drop, length}
use Rattle.lru_concrete.specs.Chains.{chain}
use Rattle.level_filter.proofs.rows.serving.Given as goal

abbrev pub invariant-loop-level : goal.invariant-loop-level
invariant-loop-level l = record {
  low : l.count ≤ l.level-index;
  counted : l.count + length (chain l.side (drop l.level-index l.levels)) ≡ length (chain l.side l.levels);
}
